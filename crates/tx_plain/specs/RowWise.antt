-- What an operator that goes row by row makes of a row.
use Rattle.std.specs.Prelude.{ℕ, ◌+◌, if◌then◌else◌, List, [], ◌∷◌, ◌++◌, drop, length, map, take, Option, Some, None}
use Rattle.tx_base.specs.declared.class.Class.{Class}
use Rattle.tx_base.specs.declared.class.Class.TheVariants.{TypeError}
use Rattle.tx_values.specs.declared.value.Value.{Value, out-Value}
use Rattle.tx_values.specs.declared.value.Value.TheOpen.{Value-F}
use Rattle.tx_values.specs.declared.value.Value.TheOpen as v
use Rattle.tx_values.specs.declared.row.Mark.{Mark}
use Rattle.tx_values.specs.declared.row.Row.{Row}
use Rattle.tx_values.specs.Answer.{Answer}
use Rattle.tx_values.specs.Equality.{truthy}
use Rattle.tx_meaning.specs.Maps as maps
use Rattle.tx_name_set.specs.NameSet.{place_in}
use Rattle.tx_names.specs.Scope.{Text}
use Rattle.tx_joins.specs.Join.{cell_of}
use Rattle.tx_records.specs.Output.{all_scalar}
use Rattle.tx_report.specs.declared.report.Entry.{Entry}
use Rattle.tx_pipe.specs.Pipe.{Handling, Operation, map_to, filter, with_column, map_column, select_columns, rename_column, to_csv, PipeNode}
use Rattle.tx_pipe.specs.Column.{Schema, bytes_of, schema_at}
use Rattle.tx_pipe.specs.declared.pipe.MapTo.{MapTo}
use Rattle.tx_pipe.specs.declared.pipe.MapTo.TheVariants as to
use Rattle.tx_plain.specs.declared.handling.Want.{Want}
use Rattle.tx_plain.specs.declared.handling.Want.TheVariants as want
use Rattle.tx_plain.specs.declared.handling.Handled.{Handled}
use Rattle.tx_plain.specs.declared.handling.Handled.TheVariants as is
use Rattle.tx_plain.specs.declared.outcome.RowOutcome.{RowOutcome}
use Rattle.tx_plain.specs.declared.outcome.RowOutcome.TheVariants as outcome
use Rattle.tx_plain.specs.Handlers.{Input, is_ignored, handled, evaluations}

-- ---- what functions are given

-- a function that takes a row, the cell of a column, or an accumulator and a row
abbrev pub of_row : Schema → Row → Input
of_row schema row = record { cells = maps.row_of schema row.cells; values = [] }

abbrev pub of_cell : Value → Input
of_cell x = record { cells = maps.no_row; values = x ∷ [] }

abbrev pub of_acc_and_row : Value → Schema → Row → Input
of_acc_and_row acc schema row = record { cells = maps.row_of schema row.cells; values = acc ∷ [] }

-- ---- what is made of their results

-- the place of the first column of a name; behind the last column where there is none
abbrev pub column_in : Schema → Text → ℕ
column_in schema name = place_in schema (bytes_of name)

-- other cells, and the same origin
abbrev pub with_cells : List Value → Row → Row
with_cells cells row = record { cells = cells; origin = row.origin }

-- a value in the place of a cell, or behind the last one
abbrev pub put_cell : ℕ → Value → List Value → List Value
put_cell place x cells = take place cells ++ x ∷ drop (place + 1) cells

abbrev pub want_of : MapTo → Want
want_of (to.Columns names) = want.TupleOf (length names)
want_of (to.Column name) = want.Any

abbrev pub items_in : Value-F Value → List Value
items_in (v.Tuple items) = items
items_in _ = []

-- the items of a tuple, or the one cell
abbrev pub result_cells : MapTo → Value → List Value
result_cells (to.Columns names) x = items_in (out-Value x)
result_cells (to.Column name) x = x ∷ []

abbrev pub selected : Schema → List Text → Row → List Value
selected schema names row = map (λ name. cell_of (column_in schema name) row) names

-- ---- an operator on a row

-- what is made of a value; without one the row is dropped, and what no handler took is reported
abbrev pub outcome_of : ℕ → (Value → RowOutcome) → Handled → RowOutcome
outcome_of number make (is.Value x) = make x
outcome_of number make is.Dropped = outcome.Dropped
outcome_of number make (is.Reported class) = outcome.Reported number class

-- a class that is raised without a function
abbrev pub raised : {F : Type 0} → ℕ → List (Handling F) → Class → RowOutcome
raised number handlers class = if is_ignored handlers class then outcome.Dropped else outcome.Reported number class

-- the row where each of its cells can be written
abbrev pub written : {F : Type 0} → ℕ → List (Handling F) → Row → RowOutcome
written number handlers row = if all_scalar row.cells then outcome.Out row else raised number handlers TypeError

-- what stands behind makes of what came out
abbrev pub go_on : (Row → RowOutcome) → RowOutcome → RowOutcome
go_on behind (outcome.Out row) = behind row
go_on behind outcome.Dropped = outcome.Dropped
go_on behind (outcome.Reported number class) = outcome.Reported number class

abbrev pub count_on : (Row → ℕ) → RowOutcome → ℕ
count_on behind (outcome.Out row) = behind row
count_on behind _ = 0

module _ {F : Type 0} (evaluate : F → Input → Answer Value) where
  -- by an operation of this number with these handlers, on a row with these columns
  abbrev pub outcome_by : ℕ → List (Handling F) → Schema → Operation F ℕ → Row → RowOutcome
  outcome_by number handlers schema (map_to f results) row =
      outcome_of number (λ x. outcome.Out (with_cells (result_cells results x) row))
      (handled evaluate (want_of results) (of_row schema row) f handlers)
  outcome_by number handlers schema (filter f) row =
      outcome_of number (λ x. if truthy x then outcome.Out row else outcome.Dropped)
      (handled evaluate want.Any (of_row schema row) f handlers)
  outcome_by number handlers schema (with_column name f) row =
      outcome_of number (λ x. outcome.Out (with_cells (put_cell (column_in schema name) x row.cells) row))
      (handled evaluate want.Any (of_row schema row) f handlers)
  outcome_by number handlers schema (map_column name f) row =
      outcome_of number (λ x. outcome.Out (with_cells (put_cell (column_in schema name) x row.cells) row))
      (handled evaluate want.Any (of_cell (cell_of (column_in schema name) row)) f handlers)
  outcome_by number handlers schema (select_columns names) row = outcome.Out (with_cells (selected schema names row) row)
  outcome_by number handlers schema (rename_column old new) row = outcome.Out row
  outcome_by number handlers schema (to_csv file) row = written number handlers row
  outcome_by number handlers schema _ row = outcome.Out row

  -- how many functions it evaluates there
  abbrev pub evaluations_by : List (Handling F) → Schema → Operation F ℕ → Row → ℕ
  evaluations_by handlers schema (map_to f results) row = evaluations evaluate (want_of results) (of_row schema row) f handlers
  evaluations_by handlers schema (filter f) row = evaluations evaluate want.Any (of_row schema row) f handlers
  evaluations_by handlers schema (with_column name f) row = evaluations evaluate want.Any (of_row schema row) f handlers
  evaluations_by handlers schema (map_column name f) row =
      evaluations evaluate want.Any (of_cell (cell_of (column_in schema name) row)) f handlers
  evaluations_by handlers schema _ row = 0

  -- the operator of this number; `schemas` are those of all operators
  abbrev pub outcome_on : List Schema → ℕ → PipeNode F → Row → RowOutcome
  outcome_on schemas number n row = outcome_by number n.handlers (schema_at schemas n.input) n.operation row

  abbrev pub evaluations_on : List Schema → PipeNode F → Row → ℕ
  evaluations_on schemas n row = evaluations_by n.handlers (schema_at schemas n.input) n.operation row

  -- ---- one operator after the other, on one row

  -- through some operators, of which the first has this number
  abbrev pub through : List Schema → ℕ → List (PipeNode F) → Row → RowOutcome
  through schemas number [] row = outcome.Out row
  through schemas number (n ∷ ns) row = go_on (through schemas (number + 1) ns) (outcome_on schemas number n row)

  abbrev pub evaluations_through : List Schema → ℕ → List (PipeNode F) → Row → ℕ
  evaluations_through schemas number [] row = 0
  evaluations_through schemas number (n ∷ ns) row =
      evaluations_on schemas n row + count_on (evaluations_through schemas (number + 1) ns) (outcome_on schemas number n row)

-- ---- of what came of some rows: the rows that came out, and the entries of those that were reported

abbrev pub row_in : RowOutcome → Option Row
row_in (outcome.Out row) = Some row
row_in _ = None

abbrev pub entry_in : List Mark → RowOutcome → Option Entry
entry_in origin (outcome.Reported number class) = Some (record { operator = number; class = class; origin = origin })
entry_in origin _ = None
