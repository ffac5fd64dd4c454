-- What each command does once it is accepted: the deed of a run, of a check, and of a table that is generated.
use Rattle.std.specs.Prelude.{ℕ, ◌++◌, Bool, false, List, [], ◌∷◌, Option, None, Some, codes, decimal}
use Rattle.tx_names.specs.Scope.{Text}
use Rattle.tx_pipe.specs.Pipe.{PipeNode, output_file}
use Rattle.tx_script.specs.Checks.{report_suffix}
use Rattle.tx_plain.specs.declared.plain.Answer as plain
use Rattle.tx_plain.specs.Pipeline.{all_made, answered, evaluate, evaluations_of}
use Rattle.tx_generate.specs.Generated as table
use Rattle.tuplex_run.specs.Deed.{Deed}
use Rattle.tuplex_run.specs.Inputs.{Ready}

-- ---- names of files

abbrev pub first_of : Option Text → Text → Text
first_of None name = name
first_of (Some file) name = file

-- the file of the `tocsv`
abbrev pub output_name : {F : Type 0} → List (PipeNode F) → Text
output_name [] = []
output_name (n ∷ ns) = first_of (output_file n.operation) (output_name ns)

-- the report stands beside the output
abbrev pub report_name : Text → Text
report_name output = output ++ report_suffix

-- ---- lines

-- of a run
abbrev pub line_of : ℕ → ℕ → List ℕ
line_of rows reported = codes "rows " ++ (decimal rows ++ (codes " exceptions " ++ (decimal reported ++ codes "\n")))

-- of `--stats`: how many evaluations of functions were interpreted, and how often typed code ran
abbrev pub stats_line : ℕ → ℕ → List ℕ
stats_line interp typed = codes "interp " ++ (decimal interp ++ (codes " typed " ++ (decimal typed ++ codes "\n")))

-- of a check
abbrev pub accepted_line : List ℕ
accepted_line = codes "accepted\n"

-- of a table that is generated
abbrev pub rows_line : ℕ → List ℕ
rows_line count = codes "rows " ++ (decimal count ++ codes "\n")

-- ---- a run

-- the output and then the report are written, and the console line is said
abbrev pub deed_with : Text → Bool → plain.Answer → ℕ → Deed
deed_with output stats answer evaluations = record {
  writes = (output, answer.output) ∷ (report_name output, answer.report) ∷ [];
  line = line_of answer.rows answer.reported;
  stats = stats;
  rows = answer.rows;
  reported = answer.reported;
  evaluations = evaluations;
}

-- the pipe on its sources, evaluated operator by operator and row by row
abbrev pub run_deed : Bool → Ready → Deed
run_deed stats r =
    deed_with (output_name r.pipe) stats (answered evaluate r.sources r.columns r.pipe) (evaluations_of (all_made evaluate r.sources r.columns r.pipe))

-- ---- a check: it writes nothing

abbrev pub check_deed : Deed
check_deed = record { writes = []; line = accepted_line; stats = false; rows = 0; reported = 0; evaluations = 0 }

-- ---- a table that is generated

-- the file of this name is written, with so many rows that this seed draws
abbrev pub generate_deed : ℕ → ℕ → Text → Deed
generate_deed seed count file =
    record { writes = (file, table.rows seed count) ∷ []; line = rows_line count; stats = false; rows = count; reported = 0; evaluations = 0 }
