-- One row after the other through a run of operators, and the operators one after the other over the whole list.
use Rattle.std.proofs.Common.{◌≡◌, ℕ, zero, suc, ◌+◌, ◌≤◌, ◌==◌, ◌++◌, Bool, cond, eqb, List, [], ◌∷◌, Option, Some, None, filter, length, refl, sym, ap, ◌∙◌, arith, zero-add, eq-eqb, ne_eqb}
use Rattle.std.specs.List.{cons_option, sum_by}
use Rattle.std.proofs.lemmas.List.Sums.{sum_by-cons}
use Rattle.tx_values.specs.declared.row.Mark.{Mark}
use Rattle.tx_values.specs.declared.row.Row.{Row}
use Rattle.tx_names.specs.Function.{Function}
use Rattle.tx_report.specs.declared.report.Entry.{Entry}
use Rattle.tx_pipe.specs.Pipe.{PipeNode}
use Rattle.tx_pipe.specs.Column.{Schema}
use Rattle.tx_plain.specs.declared.outcome.RowOutcome.{RowOutcome}
use Rattle.tx_plain.specs.declared.outcome.RowOutcome.TheVariants as outcome
use Rattle.tx_plain.specs.RowWise.{count_on, entry_in, evaluations_on, evaluations_through, go_on, outcome_on, row_in, through}
use Rattle.tx_plain.specs.Operators.{Made, reports, row_wise, rows_out}
use Rattle.tx_plain.specs.Pipeline.{evaluate}
use Rattle.tx_plain.specs.Laws.{by_operator, one_by_one, RowByRow, RowByRowLaw}
use Rattle.tx_plain.proofs.Outcomes.{IsFrom, IsOwn, from_through, own_on}

-- ---- rows

-- what comes out of the first and then of those behind
rows-then : (on behind : Row → RowOutcome) (rows : List Row) → rows_out (λ row. go_on behind (on row)) rows ≡ rows_out behind (rows_out on rows)
rows-then on behind [] = refl
rows-then on behind (x ∷ rows) = by (on x) (rows-then on behind rows)
  where
    by : (o : RowOutcome) → rows_out (λ row. go_on behind (on row)) rows ≡ rows_out behind (rows_out on rows)
        → cons_option (row_in (go_on behind o)) (rows_out (λ row. go_on behind (on row)) rows) ≡ rows_out behind (cons_option (row_in o) (rows_out on rows))
    by (outcome.Out row) h = ap (cons_option (row_in (behind row))) h
    by outcome.Dropped h = h
    by (outcome.Reported k class) h = h

-- ---- evaluations

shuffle : (a b c d : ℕ) → (a + b) + (c + d) ≡ (a + c) + (b + d)
shuffle a b c d = omega arith

counts-then : (on : Row → RowOutcome) (first behind : Row → ℕ) (rows : List Row)
    → sum_by (λ row. first row + count_on behind (on row)) rows ≡ sum_by first rows + sum_by behind (rows_out on rows)
counts-then on first behind [] = refl
counts-then on first behind (x ∷ rows) =
    sum_by-cons (λ row. first row + count_on behind (on row)) x rows
    ∙ ap (λ n. (first x + count_on behind (on x)) + n) (counts-then on first behind rows)
    ∙ shuffle (first x) (count_on behind (on x)) (sum_by first rows) (sum_by behind (rows_out on rows))
    ∙ ap (λ n. n + (count_on behind (on x) + sum_by behind (rows_out on rows))) (sym (sum_by-cons first x rows))
    ∙ ap (λ n. sum_by first (x ∷ rows) + n) (by (on x))
  where
    by : (o : RowOutcome) → count_on behind o + sum_by behind (rows_out on rows) ≡ sum_by behind (cons_option (row_in o) (rows_out on rows))
    by (outcome.Out row) = sym (sum_by-cons behind row (rows_out on rows))
    by outcome.Dropped = omega arith
    by (outcome.Reported k class) = omega arith

-- ---- entries

-- the entries of an operator
abbrev of : ℕ → List Entry → List Entry
of number entries = filter (λ entry. entry.operator == number) entries

of-cons : (m : ℕ) (o : Option Entry) (es fs : List Entry) → of m es ≡ of m fs → of m (cons_option o es) ≡ of m (cons_option o fs)
of-cons m None es fs h = h
of-cons m (Some e) es fs h = ap (λ (l : List Entry). cond (eqb e.operator m) (e ∷ l) l) h

-- one that has another number is none of them
of-other : (m : ℕ) (e : Entry) (es : List Entry) → (e.operator ≡ m → ⊥) → of m (e ∷ es) ≡ of m es
of-other m e es h = ap (λ (b : Bool). cond b (e ∷ of m es) (of m es)) (ne_eqb e.operator m h)

of-own : (m : ℕ) (e : Entry) (es : List Entry) → e.operator ≡ m → of m (e ∷ es) ≡ e ∷ of m es
of-own m e es h = ap (λ (b : Bool). cond b (e ∷ of m es) (of m es)) (eq-eqb e.operator m h)

of-later : (number : ℕ) (origin : List Mark) (o : RowOutcome) (es : List Entry) → IsFrom (number + 1) o → of number (cons_option (entry_in origin o) es) ≡ of number es
of-later number origin (outcome.Out row) es h = refl
of-later number origin outcome.Dropped es h = refl
of-later number origin (outcome.Reported k class) es h =
    of-other number (record { operator = k; class = class; origin = origin }) es (λ (e : k ≡ number). omega (arith, h, e))

module _ (number : ℕ) (on behind : Row → RowOutcome) (own : (row : Row) → IsOwn number row.origin (on row)) (later : (row : Row) → IsFrom (number + 1) (behind row)) where
  -- those of the first operator
  entries-first : (rows : List Row) → of number (reports (λ row. go_on behind (on row)) rows) ≡ reports on rows
  entries-first [] = refl
  entries-first (x ∷ rows) = by (on x) (own x) (entries-first rows)
    where
      all : List Entry
      all = reports (λ row. go_on behind (on row)) rows

      by : (o : RowOutcome) → IsOwn number x.origin o → of number all ≡ reports on rows
          → of number (cons_option (entry_in x.origin (go_on behind o)) all) ≡ cons_option (entry_in x.origin o) (reports on rows)
      by (outcome.Out row) e h = of-later number x.origin (behind row) all (later row) ∙ h
      by outcome.Dropped e h = h
      by (outcome.Reported k class) e h =
          let here : Entry = record { operator = k; class = class; origin = x.origin } in
          of-own number here all e ∙ ap (λ (l : List Entry). here ∷ l) h

  -- those of the operators behind it
  entries-behind : (m : ℕ) → number + 1 ≤ m → (rows : List Row)
      → of m (reports (λ row. go_on behind (on row)) rows) ≡ of m (reports behind (rows_out on rows))
  entries-behind m less [] = refl
  entries-behind m less (x ∷ rows) = by (on x) (own x) (entries-behind m less rows)
    where
      all : List Entry
      all = reports (λ row. go_on behind (on row)) rows

      rest : List Entry
      rest = reports behind (rows_out on rows)

      by : (o : RowOutcome) → IsOwn number x.origin o → of m all ≡ of m rest
          → of m (cons_option (entry_in x.origin (go_on behind o)) all) ≡ of m (reports behind (cons_option (row_in o) (rows_out on rows)))
      by (outcome.Out row) e h =
          of-cons m (entry_in x.origin (behind row)) all rest h
          ∙ ap (λ (origin : List Mark). of m (cons_option (entry_in origin (behind row)) rest)) (sym e)
      by outcome.Dropped e h = h
      by (outcome.Reported k class) e h =
          of-other m (record { operator = k; class = class; origin = x.origin }) all (λ (f : k ≡ m). omega (arith, less, e, f)) ∙ h

by_operator-same : (count m : ℕ) (es fs : List Entry) → ((j : ℕ) → m ≤ j → of j es ≡ of j fs) → by_operator m count es ≡ by_operator m count fs
by_operator-same zero m es fs h = refl
by_operator-same (suc count) m es fs h =
    ap (λ (l : List Entry). l ++ by_operator (m + 1) count es) (h m (omega arith))
    ∙ ap (λ (l : List Entry). of m fs ++ l) (by_operator-same count (m + 1) es fs (λ j less. h j (omega (arith, less))))

-- ---- the law

rows-none : (rows : List Row) → rows_out (λ row. outcome.Out row) rows ≡ rows
rows-none [] = refl
rows-none (x ∷ rows) = ap (λ (l : List Row). x ∷ l) (rows-none rows)

counts-none : (rows : List Row) → sum_by (λ (row : Row). 0) rows ≡ 0
counts-none [] = refl
counts-none (x ∷ rows) = sum_by-cons (λ (row : Row). 0) x rows ∙ zero-add (sum_by (λ (row : Row). 0) rows) ∙ counts-none rows

one_by_one-is : (schemas : List Schema) (number : ℕ) (ns : List (PipeNode (Function ℕ))) (rows : List Row) → RowByRow schemas number ns rows
one_by_one-is schemas number [] rows = record { rows = rows-none rows; entries = refl; evaluations = counts-none rows }
one_by_one-is schemas number (n ∷ ns) rows =
    let on : Row → RowOutcome = outcome_on evaluate schemas number n in
    let behind : Row → RowOutcome = through evaluate schemas (number + 1) ns in
    let ih : RowByRow schemas (number + 1) ns (rows_out on rows) = one_by_one-is schemas (number + 1) ns (rows_out on rows) in
    let made : List Made = one_by_one evaluate schemas (number + 1) ns (rows_out on rows) in
    let all : List Entry = reports (λ row. go_on behind (on row)) rows in
    record {
      rows = rows-then on behind rows ∙ ih.rows;
      entries =
          ap (λ (l : List Entry). l ++ by_operator (number + 1) (length ns) all)
          (entries-first number on behind (own_on evaluate schemas number n) (from_through evaluate schemas (number + 1) ns) rows)
          ∙ ap (λ (l : List Entry). reports on rows ++ l)
          (by_operator-same (length ns) (number + 1) all (reports behind (rows_out on rows))
          (λ j less. entries-behind number on behind (own_on evaluate schemas number n) (from_through evaluate schemas (number + 1) ns) j less rows)
          ∙ ih.entries);
      evaluations =
          counts-then on (evaluations_on evaluate schemas n) (evaluations_through evaluate schemas (number + 1) ns) rows
          ∙ ap (λ (k : ℕ). sum_by (evaluations_on evaluate schemas n) rows + k) ih.evaluations
          ∙ sym (sum_by-cons (λ (m : Made). m.evaluations) (row_wise evaluate schemas number n rows) made);
    }

pub row_by_row : RowByRowLaw
row_by_row schemas number ns rows = one_by_one-is schemas number ns rows
