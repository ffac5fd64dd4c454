-- What a pipe gives: the operators in the order of their numbers, each over its whole lists of rows.
use Rattle.std.specs.Prelude.{ℕ, List, [], ◌++◌, length, map, Option, nat_eq}
use Rattle.std.specs.List.{flat_map, sum_by}
use Rattle.tx_values.specs.declared.value.Value.{Value}
use Rattle.tx_values.specs.declared.row.Row.{Row}
use Rattle.tx_values.specs.Answer.{Answer}
use Rattle.tx_names.specs.Function.{Function}
use Rattle.tx_meaning.specs.Meaning.{applied}
use Rattle.tx_records.specs.declared.csv_source.CsvSource.{CsvSource}
use Rattle.tx_records.specs.Output as output
use Rattle.tx_report.specs.declared.report.Entry.{Entry}
use Rattle.tx_report.specs.Report.{report_text}
use Rattle.tx_pipe.specs.Pipe.{PipeNode, verb_of}
use Rattle.tx_pipe.specs.Verbs.{verb_word}
use Rattle.tx_pipe.specs.Column.{Schema, schema_at}
use Rattle.tx_plain.specs.declared.plain.Answer as plain
use Rattle.tx_plain.specs.Handlers.{Input}
use Rattle.tx_plain.specs.Operators.{Made, made_behind, rows_at}

-- functions of a pipe by their meaning
unfoldable pub evaluate : Function ℕ → Input → Answer Value
evaluate f input = applied nat_eq f input.cells input.values

-- the lines of rows
abbrev pub lines_of : List Row → List ℕ
lines_of rows = flat_map (λ row. output.line_of (output.fields_of row.cells)) rows

-- the header of the columns, and then the rows
abbrev pub output_text : Schema → List Row → List ℕ
output_text schema rows = output.line_of schema ++ lines_of rows

-- the entries of all operators, by operator and then by row
abbrev pub entries_of : List Made → List Entry
entries_of made = flat_map (λ m. m.entries) made

abbrev pub evaluations_of : List Made → ℕ
evaluations_of made = sum_by (λ m. m.evaluations) made

-- the words of the operators
abbrev pub kinds_of : {F : Type 0} → List (PipeNode F) → List (List ℕ)
kinds_of p = map (λ n. verb_word (verb_of n.operation)) p

-- the rows of the last operator, which writes, and what all operators report
abbrev pub answer_of : {F : Type 0} → List (PipeNode F) → List Schema → List Made → plain.Answer
answer_of p schemas made = record {
  output = output_text (schema_at schemas (length p)) (rows_at made (length p));
  report = report_text (kinds_of p) (entries_of made);
  rows = length (rows_at made (length p));
  reported = length (entries_of made);
}

module _ {F : Type 0} (evaluate : F → Input → Answer Value) where
  abbrev pub all_made : List (Option CsvSource) → List Schema → List (PipeNode F) → List Made
  all_made sources schemas p = made_behind evaluate sources schemas [] p

  abbrev pub answered : List (Option CsvSource) → List Schema → List (PipeNode F) → plain.Answer
  answered sources schemas p = answer_of p schemas (all_made sources schemas p)
