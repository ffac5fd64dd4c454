-- What holds of the definitions alone.
use Rattle.std.specs.Prelude.{◌≡◌, ℕ, zero, suc, ◌+◌, ◌==◌, ◌&&◌, Bool, true, false, List, [], ◌∷◌, ◌++◌, filter, length, Option}
use Rattle.std.specs.List.{sum_by}
use Rattle.tx_values.specs.declared.value.Value.{Value}
use Rattle.tx_values.specs.declared.row.Row.{Row}
use Rattle.tx_values.specs.Answer.{Answer}
use Rattle.tx_names.specs.Function.{Function}
use Rattle.tx_records.specs.declared.csv_source.CsvSource.{CsvSource}
use Rattle.tx_report.specs.declared.report.Entry.{Entry}
use Rattle.tx_pipe.specs.Pipe.{PipeNode, Operation, map_to, filter as keeping, with_column, map_column, select_columns, rename_column, to_csv}
use Rattle.tx_pipe.specs.Column.{Schema}
use Rattle.tx_plain.specs.Handlers.{Input}
use Rattle.tx_plain.specs.RowWise.{through, evaluations_through}
use Rattle.tx_plain.specs.Operators.{Made, made_behind, reports, row_wise, rows_at, rows_out}
use Rattle.tx_plain.specs.Pipeline.{entries_of, evaluate, evaluations_of}

-- the operators that go row by row
abbrev pub is_row_wise : {F P : Type 0} → Operation F P → Bool
is_row_wise (map_to f results) = true
is_row_wise (keeping f) = true
is_row_wise (with_column name f) = true
is_row_wise (map_column name f) = true
is_row_wise (select_columns names) = true
is_row_wise (rename_column old new) = true
is_row_wise (to_csv file) = true
is_row_wise _ = false

-- operators that follow the one of this number, each with the one before as its input
abbrev pub follow : {F : Type 0} → ℕ → List (PipeNode F) → Bool
follow number [] = true
follow number (n ∷ ns) = is_row_wise n.operation && (n.input == number && follow (number + 1) ns)

-- a run of operators, of which the first has this number
abbrev pub is_run : {F : Type 0} → ℕ → List (PipeNode F) → Bool
is_run number [] = true
is_run number (n ∷ ns) = is_row_wise n.operation && follow number ns

-- entries by operator, from a number on, and then in their order
abbrev pub by_operator : ℕ → ℕ → List Entry → List Entry
by_operator number zero entries = []
by_operator number (suc count) entries = filter (λ entry. entry.operator == number) entries ++ by_operator (number + 1) count entries

module _ {F : Type 0} (evaluate : F → Input → Answer Value) where
  -- operator after operator, each over the whole list of rows of the one before
  abbrev pub one_by_one : List Schema → ℕ → List (PipeNode F) → List Row → List Made
  one_by_one schemas number [] rows = []
  one_by_one schemas number (n ∷ ns) rows =
      row_wise evaluate schemas number n rows ∷ one_by_one schemas (number + 1) ns (row_wise evaluate schemas number n rows).rows

-- the rows of the last of them
abbrev pub last_rows : List Row → List Made → List Row
last_rows rows [] = rows
last_rows rows (m ∷ made) = last_rows m.rows made

-- taking each row through all of them, one row after the other, gives the lists of operator after operator, once the entries are
-- ordered by operator and then by row
pub record RowByRow (schemas : List Schema) (number : ℕ) (ns : List (PipeNode (Function ℕ))) (all : List Row) : Type 0 where
  pub rows : rows_out (through evaluate schemas number ns) all ≡ last_rows all (one_by_one evaluate schemas number ns all)
  pub entries : by_operator number (length ns) (reports (through evaluate schemas number ns) all) ≡ entries_of (one_by_one evaluate schemas number ns all)
  pub evaluations : sum_by (evaluations_through evaluate schemas number ns) all ≡ evaluations_of (one_by_one evaluate schemas number ns all)

abbrev pub RowByRowLaw : Type 0
RowByRowLaw = (schemas : List Schema) (number : ℕ) (ns : List (PipeNode (Function ℕ))) (rows : List Row) → RowByRow schemas number ns rows

-- a run in a pipe gives what its operators give one after the other, of the rows of the input of the first
abbrev pub RunLaw : Type 0
RunLaw = (sources : List (Option CsvSource)) (schemas : List Schema) (before : List Made) (n : PipeNode (Function ℕ)) (ns behind : List (PipeNode (Function ℕ)))
    → is_run (length before + 1) (n ∷ ns) ≡ true
    → made_behind evaluate sources schemas before ((n ∷ ns) ++ behind)
    ≡ made_behind evaluate sources schemas (before ++ one_by_one evaluate schemas (length before + 1) (n ∷ ns) (rows_at before n.input)) behind
