-- What comes of a row: a row of the same origin, or what this operator reports.
use Rattle.std.proofs.Common.{◌≡◌, ℕ, ◌+◌, ◌≤◌, Bool, true, false, cond, if◌then◌else◌, List, [], ◌∷◌, refl, arith}
use Rattle.tx_base.specs.declared.class.Class.{Class}
use Rattle.tx_base.specs.declared.class.Class.TheVariants.{TypeError}
use Rattle.tx_values.specs.declared.value.Value.{Value}
use Rattle.tx_values.specs.declared.row.Mark.{Mark}
use Rattle.tx_values.specs.declared.row.Row.{Row}
use Rattle.tx_values.specs.Answer.{Answer}
use Rattle.tx_values.specs.Equality.{truthy}
use Rattle.tx_records.specs.Output.{all_scalar}
use Rattle.tx_joins.specs.Join.{cell_of}
use Rattle.tx_pipe.specs.Pipe.{Handling, Operation, csv, map_to, filter, with_column, map_column, select_columns, rename_column, join, left_join, unique, aggregate, to_csv, PipeNode}
use Rattle.tx_pipe.specs.Column.{Schema, schema_at}
use Rattle.tx_plain.specs.declared.handling.Want.TheVariants as want
use Rattle.tx_plain.specs.declared.handling.Handled.{Handled}
use Rattle.tx_plain.specs.declared.handling.Handled.TheVariants as is
use Rattle.tx_plain.specs.declared.outcome.RowOutcome.{RowOutcome}
use Rattle.tx_plain.specs.declared.outcome.RowOutcome.TheVariants as outcome
use Rattle.tx_plain.specs.Handlers.{Input, is_ignored, handled}
use Rattle.tx_plain.specs.RowWise.{column_in, go_on, of_cell, of_row, outcome_by, outcome_of, outcome_on, put_cell, result_cells, through, want_of, with_cells}

-- a row that comes out has this origin, and what is reported has this number
abbrev pub IsOwn : ℕ → List Mark → RowOutcome → Type 0
IsOwn number origin (outcome.Out row) = row.origin ≡ origin
IsOwn number origin outcome.Dropped = Unit {0}
IsOwn number origin (outcome.Reported k class) = k ≡ number

own_made : (number : ℕ) (origin : List Mark) (make : Value → RowOutcome) → ((x : Value) → IsOwn number origin (make x)) → (said : Handled) → IsOwn number origin (outcome_of number make said)
own_made number origin make h (is.Value x) = h x
own_made number origin make h is.Dropped = tt
own_made number origin make h (is.Reported class) = refl

own_chosen : (number : ℕ) (row : Row) (b : Bool) → IsOwn number row.origin (cond b (outcome.Out row) outcome.Dropped)
own_chosen number row true = refl
own_chosen number row false = tt

own_raised : (number : ℕ) (origin : List Mark) (class : Class) (b : Bool) → IsOwn number origin (cond b outcome.Dropped (outcome.Reported number class))
own_raised number origin class true = tt
own_raised number origin class false = refl

own_written : (number : ℕ) (row : Row) (class : Class) (b c : Bool) → IsOwn number row.origin (cond b (outcome.Out row) (cond c outcome.Dropped (outcome.Reported number class)))
own_written number row class true c = refl
own_written number row class false c = own_raised number row.origin class c

module _ {F : Type 0} (evaluate : F → Input → Answer Value) where
  own_by : (number : ℕ) (handlers : List (Handling F)) (schema : Schema) (op : Operation F ℕ) (row : Row) → IsOwn number row.origin (outcome_by evaluate number handlers schema op row)
  own_by number handlers schema (csv file names) row = refl
  own_by number handlers schema (map_to f results) row =
      own_made number row.origin (λ x. outcome.Out (with_cells (result_cells results x) row)) (λ x. refl) (handled evaluate (want_of results) (of_row schema row) f handlers)
  own_by number handlers schema (filter f) row =
      own_made number row.origin (λ x. if truthy x then outcome.Out row else outcome.Dropped) (λ x. own_chosen number row (truthy x)) (handled evaluate want.Any (of_row schema row) f handlers)
  own_by number handlers schema (with_column name f) row =
      own_made number row.origin (λ x. outcome.Out (with_cells (put_cell (column_in schema name) x row.cells) row)) (λ x. refl) (handled evaluate want.Any (of_row schema row) f handlers)
  own_by number handlers schema (map_column name f) row =
      own_made number row.origin (λ x. outcome.Out (with_cells (put_cell (column_in schema name) x row.cells) row)) (λ x. refl) (handled evaluate want.Any (of_cell (cell_of (column_in schema name) row)) f handlers)
  own_by number handlers schema (select_columns names) row = refl
  own_by number handlers schema (rename_column old new) row = refl
  own_by number handlers schema (join right l r) row = refl
  own_by number handlers schema (left_join right l r) row = refl
  own_by number handlers schema unique row = refl
  own_by number handlers schema (aggregate f init name) row = refl
  own_by number handlers schema (to_csv file) row = own_written number row TypeError (all_scalar row.cells) (is_ignored handlers TypeError)

  pub own_on : (schemas : List Schema) (number : ℕ) (n : PipeNode F) (row : Row) → IsOwn number row.origin (outcome_on evaluate schemas number n row)
  own_on schemas number n row = own_by number n.handlers (schema_at schemas n.input) n.operation row

-- what is reported has at least this number
abbrev pub IsFrom : ℕ → RowOutcome → Type 0
IsFrom number (outcome.Out row) = Unit {0}
IsFrom number outcome.Dropped = Unit {0}
IsFrom number (outcome.Reported k class) = number ≤ k

from_less : (number : ℕ) (o : RowOutcome) → IsFrom (number + 1) o → IsFrom number o
from_less number (outcome.Out row) h = tt
from_less number outcome.Dropped h = tt
from_less number (outcome.Reported k class) h = omega (arith, h)

from_on : (number : ℕ) (origin : List Mark) (behind : Row → RowOutcome) → ((row : Row) → IsFrom (number + 1) (behind row)) → (o : RowOutcome) → IsOwn number origin o → IsFrom number (go_on behind o)
from_on number origin behind h (outcome.Out row) own = from_less number (behind row) (h row)
from_on number origin behind h outcome.Dropped own = tt
from_on number origin behind h (outcome.Reported k class) own = omega (arith, own)

module _ {F : Type 0} (evaluate : F → Input → Answer Value) where
  pub from_through : (schemas : List Schema) (number : ℕ) (ns : List (PipeNode F)) (row : Row) → IsFrom number (through evaluate schemas number ns row)
  from_through schemas number [] row = tt
  from_through schemas number (n ∷ ns) row =
      from_on number row.origin (through evaluate schemas (number + 1) ns) (from_through schemas (number + 1) ns) (outcome_on evaluate schemas number n row) (own_on evaluate schemas number n row)
