-- What an operator gives of its whole input lists.
use Rattle.std.specs.Prelude.{ℕ, zero, suc, ◌+◌, ◌-◌, Bool, true, false, not, List, [], ◌∷◌, ◌++◌, filter, filter_map, length, map, slice_get, unwrap_or, Option, Some, None, option_map, option_and_then}
use Rattle.std.specs.List.{sum_by}
use Rattle.tx_base.specs.declared.class.Class.TheVariants.{TypeError}
use Rattle.tx_values.specs.declared.value.Value.{Value}
use Rattle.tx_values.specs.declared.row.Mark.{Mark}
use Rattle.tx_values.specs.declared.row.Row.{Row}
use Rattle.tx_values.specs.Answer.{Answer}
use Rattle.tx_names.specs.Scope.{Text}
use Rattle.tx_joins.specs.Join.{joined_rows, keyless}
use Rattle.tx_joins.specs.Unique.{unique_rows, keyless_rows}
use Rattle.tx_records.specs.declared.csv_source.CsvSource.{CsvSource}
use Rattle.tx_records.specs.Records.{rows_of}
use Rattle.tx_report.specs.declared.report.Entry.{Entry}
use Rattle.tx_pipe.specs.Pipe.{Handling, Operation, csv, join, left_join, unique, aggregate, PipeNode}
use Rattle.tx_pipe.specs.Column.{Schema, schema_at}
use Rattle.tx_plain.specs.declared.handling.Want.TheVariants as want
use Rattle.tx_plain.specs.declared.handling.Handled.{Handled}
use Rattle.tx_plain.specs.declared.handling.Handled.TheVariants as is
use Rattle.tx_plain.specs.declared.outcome.RowOutcome.{RowOutcome}
use Rattle.tx_plain.specs.Handlers.{Input, is_ignored, handled, evaluations}
use Rattle.tx_plain.specs.RowWise.{column_in, of_acc_and_row, outcome_on, evaluations_on, row_in, entry_in}

-- the rows that an operator gives, what it reports, and how many functions it evaluated
pub record Made : Type 0 where
  pub rows : List Row
  pub entries : List Entry
  pub evaluations : ℕ

-- ---- row by row

-- of what comes of each of some rows: those that come out, and what is reported
abbrev pub rows_out : (Row → RowOutcome) → List Row → List Row
rows_out on rows = filter_map (λ row. row_in (on row)) rows

abbrev pub reports : (Row → RowOutcome) → List Row → List Entry
reports on rows = filter_map (λ row. entry_in row.origin (on row)) rows

-- ---- without a function

-- what no `ignore` handler takes
abbrev pub not_ignored : {F : Type 0} → List (Handling F) → List Entry → List Entry
not_ignored handlers entries = filter (λ entry. not (is_ignored handlers entry.class)) entries

-- the rows whose key is not hashable
abbrev pub unhashable : ℕ → List Mark → Entry
unhashable number origin = record { operator = number; class = TypeError; origin = origin }

abbrev pub without_keys : {F : Type 0} → ℕ → List (Handling F) → List (List Mark) → List Entry
without_keys number handlers origins = not_ignored handlers (map (unhashable number) origins)

-- the source of an operator: where there is none it gives nothing
abbrev pub read_from : {F : Type 0} → List (Handling F) → Option CsvSource → Made
read_from handlers None = record { rows = []; entries = []; evaluations = 0 }
read_from handlers (Some source) =
    record { rows = rows_of source.rows; entries = not_ignored handlers source.faults; evaluations = 0 }

abbrev pub source_at : List (Option CsvSource) → ℕ → Option CsvSource
source_at sources number = option_and_then (λ source. source) (slice_get sources (number - 1))

-- a join of rows with these columns; where `keep` is true, a left join
abbrev pub joined : {F : Type 0} → Bool → ℕ → List (Handling F) → Schema → Schema → Text → Text → List Row → List Row → Made
joined keep number handlers left right l r lefts rights = record {
  rows = joined_rows keep (length right) (column_in left l) (column_in right r) lefts rights;
  entries = without_keys number handlers (keyless (column_in left l) lefts ++ keyless (column_in right r) rights);
  evaluations = 0;
}

abbrev pub firsts : {F : Type 0} → ℕ → List (Handling F) → List Row → Made
firsts number handlers rows =
    record { rows = unique_rows rows; entries = without_keys number handlers (keyless_rows rows); evaluations = 0 }

-- ---- folds

-- the accumulator, and what was reported so far
pub record Folded : Type 0 where
  pub acc : Value
  pub entries : List Entry

-- where there is no value, the accumulator stays
abbrev pub fold_on : ℕ → Row → Folded → Handled → Folded
fold_on number row sofar (is.Value x) = record { acc = x; entries = sofar.entries }
fold_on number row sofar is.Dropped = sofar
fold_on number row sofar (is.Reported class) =
    record { acc = sofar.acc; entries = sofar.entries ++ record { operator = number; class = class; origin = row.origin } ∷ [] }

-- the row of the aggregate of this number
abbrev pub row_of_fold : ℕ → Value → Row
row_of_fold number acc = record { cells = acc ∷ []; origin = record { operator = number; number = 0 } ∷ [] }

-- the rows that the operator of a number gave; there is none of number 0
abbrev pub rows_at : List Made → ℕ → List Row
rows_at made zero = []
rows_at made (suc place) = unwrap_or (option_map (λ m. m.rows) (slice_get made place)) []

-- the right input of a join; no other operator has one
abbrev pub right_input : {F : Type 0} → Operation F ℕ → ℕ
right_input (join right l r) = right
right_input (left_join right l r) = right
right_input _ = 0

module _ {F : Type 0} (evaluate : F → Input → Answer Value) where
  -- an operator that goes row by row
  abbrev pub row_wise : List Schema → ℕ → PipeNode F → List Row → Made
  row_wise schemas number n rows = record {
    rows = rows_out (outcome_on evaluate schemas number n) rows;
    entries = reports (outcome_on evaluate schemas number n) rows;
    evaluations = sum_by (evaluations_on evaluate schemas n) rows;
  }

  -- one row more
  abbrev pub fold_row : ℕ → F → List (Handling F) → Schema → Folded → Row → Folded
  fold_row number f handlers schema sofar row =
      fold_on number row sofar (handled evaluate want.Any (of_acc_and_row sofar.acc schema row) f handlers)

  -- the rows from the left
  abbrev pub folded : ℕ → F → List (Handling F) → Schema → Folded → List Row → Folded
  folded number f handlers schema sofar [] = sofar
  folded number f handlers schema sofar (row ∷ rows) =
      folded number f handlers schema (fold_row number f handlers schema sofar row) rows

  abbrev pub fold_evaluations : ℕ → F → List (Handling F) → Schema → Folded → List Row → ℕ
  fold_evaluations number f handlers schema sofar [] = 0
  fold_evaluations number f handlers schema sofar (row ∷ rows) =
      evaluations evaluate want.Any (of_acc_and_row sofar.acc schema row) f handlers
      + fold_evaluations number f handlers schema (fold_row number f handlers schema sofar row) rows

  abbrev pub nothing_folded : Value → Folded
  nothing_folded init = record { acc = init; entries = [] }

  abbrev pub aggregated : ℕ → F → List (Handling F) → Schema → Value → List Row → Made
  aggregated number f handlers schema init rows = record {
    rows = row_of_fold number (folded number f handlers schema (nothing_folded init) rows).acc ∷ [];
    entries = (folded number f handlers schema (nothing_folded init) rows).entries;
    evaluations = fold_evaluations number f handlers schema (nothing_folded init) rows;
  }

  -- the operator of this number, of the rows of its input, and those of the right input where it is a join
  abbrev pub operated : List (Option CsvSource) → List Schema → ℕ → PipeNode F → Operation F ℕ → List Row → List Row → Made
  operated sources schemas number n (csv file names) lefts rights = read_from n.handlers (source_at sources number)
  operated sources schemas number n (join right l r) lefts rights =
      joined false number n.handlers (schema_at schemas n.input) (schema_at schemas right) l r lefts rights
  operated sources schemas number n (left_join right l r) lefts rights =
      joined true number n.handlers (schema_at schemas n.input) (schema_at schemas right) l r lefts rights
  operated sources schemas number n unique lefts rights = firsts number n.handlers lefts
  operated sources schemas number n (aggregate f init name) lefts rights =
      aggregated number f n.handlers (schema_at schemas n.input) init lefts
  operated sources schemas number n _ lefts rights = row_wise schemas number n lefts

  -- where the operators before it gave this
  abbrev pub made_next : List (Option CsvSource) → List Schema → List Made → PipeNode F → Made
  made_next sources schemas before n =
      operated sources schemas (length before + 1) n n.operation (rows_at before n.input) (rows_at before (right_input n.operation))

  -- all operators, in the order of their numbers, behind some
  abbrev pub made_behind : List (Option CsvSource) → List Schema → List Made → List (PipeNode F) → List Made
  made_behind sources schemas before [] = before
  made_behind sources schemas before (n ∷ ns) = made_behind sources schemas (before ++ made_next sources schemas before n ∷ []) ns
