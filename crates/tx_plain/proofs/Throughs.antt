-- Operators one after the other on a row, with one more behind them.
use Rattle.std.proofs.Common.{◌≡◌, ℕ, suc, ◌+◌, ◌++◌, List, [], ◌∷◌, length, refl, sym, ap, ◌∙◌, arith}
use Rattle.tx_values.specs.declared.value.Value.{Value}
use Rattle.tx_values.specs.declared.row.Row.{Row}
use Rattle.tx_values.specs.Answer.{Answer}
use Rattle.tx_pipe.specs.Pipe.{PipeNode}
use Rattle.tx_pipe.specs.Column.{Schema}
use Rattle.tx_plain.specs.declared.outcome.RowOutcome.{RowOutcome}
use Rattle.tx_plain.specs.declared.outcome.RowOutcome.TheVariants as outcome
use Rattle.tx_plain.specs.Handlers.{Input}
use Rattle.tx_plain.specs.RowWise.{count_on, evaluations_on, evaluations_through, go_on, outcome_on, through}

shift : (number n : ℕ) → number + 1 + n ≡ number + suc n
shift number n = omega arith

none_more : (number : ℕ) → number + 0 ≡ number
none_more number = omega arith

on-on : (f g : Row → RowOutcome) (o : RowOutcome) → go_on f (go_on g o) ≡ go_on (λ row. go_on f (g row)) o
on-on f g (outcome.Out row) = refl
on-on f g outcome.Dropped = refl
on-on f g (outcome.Reported k class) = refl

pub on-out : (f : Row → RowOutcome) (g : Row → RowOutcome) → ((row : Row) → f row ≡ g row) → (o : RowOutcome) → go_on f o ≡ go_on g o
on-out f g h (outcome.Out row) = h row
on-out f g h outcome.Dropped = refl
on-out f g h (outcome.Reported k class) = refl

counts-on : (f g : Row → ℕ) → ((row : Row) → f row ≡ g row) → (o : RowOutcome) → count_on f o ≡ count_on g o
counts-on f g h (outcome.Out row) = h row
counts-on f g h outcome.Dropped = refl
counts-on f g h (outcome.Reported k class) = refl

module _ {F : Type 0} (evaluate : F → Input → Answer Value) (schemas : List Schema) where
  pub through-last : (number : ℕ) (ns : List (PipeNode F)) (n : PipeNode F) (row : Row)
      → through evaluate schemas number (ns ++ n ∷ []) row ≡ go_on (outcome_on evaluate schemas (number + length ns) n) (through evaluate schemas number ns row)
  through-last number [] n row = alone (outcome_on evaluate schemas number n row) ∙ ap (λ (k : ℕ). outcome_on evaluate schemas k n row) (sym (none_more number))
    where
      alone : (o : RowOutcome) → go_on (λ row. outcome.Out row) o ≡ o
      alone (outcome.Out row) = refl
      alone outcome.Dropped = refl
      alone (outcome.Reported k class) = refl
  through-last number (m ∷ ns) n row =
      on-out (through evaluate schemas (number + 1) (ns ++ n ∷ [])) (λ r. go_on (outcome_on evaluate schemas (number + suc (length ns)) n) (through evaluate schemas (number + 1) ns r))
      (λ r. through-last (number + 1) ns n r ∙ ap (λ (k : ℕ). go_on (outcome_on evaluate schemas k n) (through evaluate schemas (number + 1) ns r)) (shift number (length ns)))
      (outcome_on evaluate schemas number m row)
      ∙ sym (on-on (outcome_on evaluate schemas (number + suc (length ns)) n) (through evaluate schemas (number + 1) ns) (outcome_on evaluate schemas number m row))

  -- where the last evaluates no function
  pub evaluations-last : (number : ℕ) (ns : List (PipeNode F)) (n : PipeNode F) (row : Row) → ((r : Row) → evaluations_on evaluate schemas n r ≡ 0)
      → evaluations_through evaluate schemas number (ns ++ n ∷ []) row ≡ evaluations_through evaluate schemas number ns row
  evaluations-last number [] n row none = alone (outcome_on evaluate schemas number n row) (none row)
    where
      quiet : (o : RowOutcome) → count_on (λ r. 0) o ≡ 0
      quiet (outcome.Out r) = refl
      quiet outcome.Dropped = refl
      quiet (outcome.Reported k class) = refl

      alone : (o : RowOutcome) → evaluations_on evaluate schemas n row ≡ 0 → evaluations_on evaluate schemas n row + count_on (λ r. 0) o ≡ 0
      alone o e = ap (λ (k : ℕ). k + count_on (λ r. 0) o) e ∙ omega (arith, quiet o)
  evaluations-last number (m ∷ ns) n row none =
      ap (λ (k : ℕ). evaluations_on evaluate schemas m row + k)
      (counts-on (evaluations_through evaluate schemas (number + 1) (ns ++ n ∷ [])) (evaluations_through evaluate schemas (number + 1) ns)
      (λ (r : Row). evaluations-last (number + 1) ns n r none) (outcome_on evaluate schemas number m row))
