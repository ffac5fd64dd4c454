-- The status of each outcome.
use Rattle.std.specs.Prelude.{ℕ}
use Rattle.tuplex_run.specs.declared.outcome.Outcome.{Outcome}
use Rattle.tuplex_run.specs.declared.outcome.Outcome.TheVariants.{Done, Words, Script, Columns, TooLarge, ReadFault, WriteFault, ConsoleFault, NoMemory}

abbrev pub status_of : Outcome → ℕ
status_of (Done rows reported) = 0
status_of Words = 2
status_of (Script fault) = 3
status_of (Columns fault) = 4
status_of (TooLarge name) = 5
status_of (ReadFault name) = 6
status_of (WriteFault name) = 7
status_of NoMemory = 8
status_of ConsoleFault = 9
