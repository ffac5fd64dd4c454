-- How far the operators of a pipe have gone.
use Rattle.std.specs.Prelude.{◌≡◌, ℕ, ◌+◌, ◌≤◌, List, Option, drop, length}
use Rattle.tx_report.specs.declared.report.Entry.{Entry}
use Rattle.tx_pipe.specs.Pipe.{PipeNode}
use Rattle.tx_names.specs.Function.{Function}
use Rattle.tx_records.specs.declared.csv_source.CsvSource.{CsvSource}
use Rattle.tx_pipe.specs.Column.{Schema}
use Rattle.tx_pipe.specs.Lawful.{uses}
use Rattle.tx_plain.specs.declared.stored.Stored.{Stored}
use Rattle.tx_plain.specs.Operators.{Made, made_behind, rows_at}
use Rattle.tx_plain.specs.Pipeline.{all_made, entries_of, evaluate, evaluations_of}
use Rattle.tx_plain.specs.Calls.Holding.{rows_stored_at}

-- where the first operators gave this: the rows that others have as their input are stored, and what was reported is told
pub record Stands {F : Type 0} (p : List (PipeNode F)) (made : List Made) (kept : List Stored) (told : List Entry) : Type 0 where
  pub len : length kept ≡ length made
  pub entries : told ≡ entries_of made
  pub rows : (number : ℕ) → 1 ≤ uses number (drop (length made) p) → rows_stored_at kept number ≡ rows_at made number

-- the operators up to a place were taken: what is left of all makes the whole, and so many steps were made since `start`
pub record Worked (sources : List (Option CsvSource)) (schemas : List Schema) (p : List (PipeNode (Function ℕ))) (at start now : ℕ) (kept : List Stored) (told : List Entry) : Type 0 where
  pub made : List Made
  pub len : length made ≡ at
  pub stands : Stands p made kept told
  pub all : made_behind evaluate sources schemas made (drop at p) ≡ all_made evaluate sources schemas p
  pub steps : start + evaluations_of made ≡ now
