-- An accepted command, as a deed, and a script with its files, as it is read.
use Rattle.std.specs.Prelude.{◌++◌, ℕ, List, [], map, Option, if◌then◌else◌}
use mathlib.Core.Logic.{inr}
use Rattle.tx_base.specs.declared.meter.Meter.{Meter}
use Rattle.tx_place.specs.Place.{Held}
use Rattle.tx_records.specs.declared.csv_source.CsvSource.{CsvSource}
use Rattle.tx_pipe.specs.Pipe.{pipe_of}
use Rattle.tx_script.specs.Linked.{Pipe}
use Rattle.tuplex_run.specs.Deed.{Deed}
use Rattle.tuplex_run.specs.Inputs.{OrRefusal, ◌>>=◌, inputs_in, header_of, columns_in, Ready, ready}
use Rattle.tuplex_run.specs.Commands.{stats_line}
use Rattle.tuplex_run.specs.declared.accept.Accepted.{Accepted}
use Rattle.tuplex_run.specs.declared.accept.Prepared.{Prepared}

-- the code's own record with so many evaluations, which the code does not keep
abbrev pub as_deed : Accepted → ℕ → Deed
as_deed run evaluations = record {
  writes = run.writes;
  line = run.line;
  stats = run.stats;
  rows = run.rows;
  reported = run.reported;
  evaluations = evaluations;
}

-- what it says where the meter stands so
abbrev pub text_of : Accepted → Meter → List ℕ
text_of run meter = run.line ++ (if run.stats then stats_line meter.interp meter.typed else [])

-- the code's own record of a script with its files
abbrev pub as_ready : Prepared → Ready
as_ready prepared = ready (pipe_of prepared.pipe) prepared.sources prepared.columns

-- a script with its files, once the inputs are read
abbrev pub ready_on_sources : Pipe → List (Option CsvSource) → OrRefusal Ready
ready_on_sources pipe sources = do
  columns ← columns_in (map header_of sources) pipe
  inr (ready pipe sources columns)

-- once the script is accepted
abbrev pub ready_on_pipe : Held → Pipe → OrRefusal Ready
ready_on_pipe held pipe = do
  sources ← inputs_in held 1 pipe
  ready_on_sources pipe sources
