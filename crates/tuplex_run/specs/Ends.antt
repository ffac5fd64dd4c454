-- How a command ends: the headline, and what each answer says. `old` and `new` are the moments of the call and of the answer.
use Rattle.std.specs.Prelude.{◌≡◌, ◌≤◌, ◌⊎◌, ◌+◌, ◌-◌, ℕ, List, [], ◌++◌, Some, None, true, if◌then◌else◌, take}
use mathlib.Core.Logic.{inr}
use Rattle.tx_base.specs.Count.{counted}
use Rattle.tx_place.specs.Count.{Rose, Still}
use Rattle.tx_place.specs.Place.{Held, PlaceState, KeepsTelling, with_file}
use Rattle.tx_place.specs.Console.{ConsoleState}
use Rattle.tx_names.specs.Scope.{Text}
use Rattle.tx_plain.specs.Counts.{Follows}
use Rattle.tx_generate.specs.Generated as table
use Rattle.tx_words.specs.Words.{command_of}
use Rattle.tx_words.specs.declared.command.Command.TheVariants.{Check, Generate}
use Rattle.tuplex_run.specs.Partly.{IsPartly}
use Rattle.tuplex_run.specs.Deed.{Deed, written, IsWrittenPartly}
use Rattle.tuplex_run.specs.Inputs.{Ready}
use Rattle.tuplex_run.specs.Commands.{accepted_line, rows_line, stats_line}
use Rattle.tuplex_run.specs.Outside.{Outside}
use Rattle.tuplex_run.specs.Due.{on_script, IsVerdict, IsDue, IsDeedWith, IsAccepted, IsReadBy, IsWrittenBy, IsTouchedBy}
use Rattle.tuplex_run.specs.Status.{status_of}
use Rattle.tuplex_run.specs.declared.outcome.Outcome.{Outcome}
use Rattle.tuplex_run.specs.declared.outcome.Outcome.TheVariants.{Done, Words, Script, Columns, TooLarge, ReadFault, WriteFault, ConsoleFault, NoMemory}

-- ---- what is said

-- the line of a deed; with `--stats` a second one behind it: how far the steps rose in this call, or 2^64 - 1 where that is more, and
-- how far the meter's count of typed runs did
abbrev pub said_of : Deed → Outside → Outside → List ℕ
said_of deed old new =
    deed.line ++ (if deed.stats then stats_line (counted 0 (new.steps - old.steps)) (new.meter.typed - old.meter.typed) else [])

-- ---- the headline

-- no count of faults rose, of those that an outcome can come from
pub record IsFaultless (old new : Outside) : Type 0 where
  pub reads : Still old.place.read_faults new.place.read_faults
  pub writes : Still old.place.write_faults new.place.write_faults
  pub says : Still old.console.say_faults new.console.say_faults

-- the deed was done as the plain meaning has it
pub record EndsPlainly (deed : Deed) (old new : Outside) (outcome : Outcome) : Type 0 where
  pub done : outcome ≡ Done deed.rows deed.reported
  pub status : status_of outcome ≡ 0
  pub files : new.place.held ≡ written deed.writes old.place.held
  pub said : old.console.tells ≡ true → new.console.said ≡ old.console.said ++ said_of deed old new
  pub complained : old.console.tells ≡ true → new.console.complained ≡ old.console.complained

-- THE HEADLINE: a command that is accepted with its files ends plainly, where no call failed and memory was not refused
abbrev pub RunsPlainly : List (List ℕ) → Outside → Outside → Outcome → Type 0
RunsPlainly words old new outcome =
    (deed : Deed) → old.place.tells ≡ true → IsVerdict words old.place.held (inr deed)
    → IsFaultless old new → (outcome ≡ NoMemory → ⊥) → EndsPlainly deed old new outcome

-- where no call failed, the answer is the one that is due, or that memory was refused
abbrev pub IsComplete : List (List ℕ) → Outside → Outside → Outcome → Type 0
IsComplete words old new outcome =
    old.place.tells ≡ true → IsFaultless old new → (outcome ≡ NoMemory → ⊥) → IsDue words old.place.held outcome

-- ---- when each answer comes

-- nothing failed: no count of faults is greater than at the beginning, and the place names no other fault
pub record HasNoMoreFaults (old new : Outside) : Type 0 where
  pub reads : new.place.read_faults ≤ old.place.read_faults
  pub writes : new.place.write_faults ≤ old.place.write_faults
  pub says : new.console.say_faults ≤ old.console.say_faults
  pub named : old.place.names_faults ≡ true → new.place.failed ≡ old.place.failed

-- a read failed, of the file of this name, and no write and no `say`
pub record OnlyReadFailed (name : List ℕ) (old new : Outside) : Type 0 where
  pub reads : Rose old.place.read_faults new.place.read_faults
  pub writes : new.place.write_faults ≤ old.place.write_faults
  pub says : new.console.say_faults ≤ old.console.say_faults
  pub named : old.place.names_faults ≡ true → new.place.failed ≡ Some name

-- a write failed, of the file of this name, and no read and no `say`
pub record OnlyWriteFailed (name : List ℕ) (old new : Outside) : Type 0 where
  pub reads : new.place.read_faults ≤ old.place.read_faults
  pub writes : Rose old.place.write_faults new.place.write_faults
  pub says : new.console.say_faults ≤ old.console.say_faults
  pub named : old.place.names_faults ≡ true → new.place.failed ≡ Some name

-- a `say` failed, and no read and no write
pub record OnlySayFailed (old new : Outside) : Type 0 where
  pub reads : new.place.read_faults ≤ old.place.read_faults
  pub writes : new.place.write_faults ≤ old.place.write_faults
  pub says : Rose old.console.say_faults new.console.say_faults
  pub named : old.place.names_faults ≡ true → new.place.failed ≡ old.place.failed

abbrev pub Cause : List (List ℕ) → Outside → Outside → Outcome → Type 0
Cause words old new (Done rows reported) =
    HasNoMoreFaults old new × (old.place.tells ≡ true → IsDue words old.place.held (Done rows reported))
Cause words old new Words = HasNoMoreFaults old new × (command_of words ≡ None)
Cause words old new (Script fault) =
    HasNoMoreFaults old new × (old.place.tells ≡ true → IsDue words old.place.held (Script fault))
Cause words old new (Columns fault) =
    HasNoMoreFaults old new × (old.place.tells ≡ true → IsDue words old.place.held (Columns fault))
Cause words old new (TooLarge name) =
    HasNoMoreFaults old new × (old.place.tells ≡ true → IsDue words old.place.held (TooLarge name))
Cause words old new (ReadFault name) =
    OnlyReadFailed name old new × (old.place.tells ≡ true → IsReadBy words old.place.held name)
Cause words old new (WriteFault name) =
    OnlyWriteFailed name old new × (old.place.tells ≡ true → IsWrittenBy words old.place.held name)
Cause words old new ConsoleFault =
    OnlySayFailed old new × (old.place.tells ≡ true → IsAccepted words old.place.held)
Cause words old new NoMemory = Unit {0}

-- the name of the place's last call that failed is as it was, or is such a one
abbrev pub FailedAmong : (List ℕ → Type 0) → PlaceState → PlaceState → Type 0
FailedAmong IsOne old new = (new.failed ≡ old.failed) ⊎ ((name : List ℕ) × (new.failed ≡ Some name) × IsOne name)

-- whatever the answer, no call failed but at a file that the command reads or writes
abbrev pub FailsWithin : List (List ℕ) → PlaceState → PlaceState → Type 0
FailsWithin words old new =
    old.tells ≡ true → old.names_faults ≡ true → FailedAmong (IsTouchedBy words old.held) old new

-- ---- what stands afterwards

-- all that is due was written
abbrev pub IsWhole : List (List ℕ) → Held → Held → Type 0
IsWhole words old new = IsDeedWith words old (λ deed. new ≡ written deed.writes old)

-- a prefix of it was
abbrev pub IsPart : List (List ℕ) → Held → Held → Type 0
IsPart words old new = IsDeedWith words old (λ deed. IsWrittenPartly deed.writes old new)

-- the files after each answer
abbrev pub Stands : List (List ℕ) → Held → Held → Outcome → Type 0
Stands words old new (Done rows reported) = IsWhole words old new
Stands words old new Words = new ≡ old
Stands words old new (Script fault) = new ≡ old
Stands words old new (Columns fault) = new ≡ old
Stands words old new (TooLarge name) = new ≡ old
Stands words old new (ReadFault name) = new ≡ old
Stands words old new (WriteFault name) = IsPart words old new
Stands words old new ConsoleFault = IsWhole words old new
Stands words old new NoMemory = (new ≡ old) ⊎ IsPart words old new

-- ---- what was said, and what was complained

-- what is due was said, in part
abbrev pub IsSaidPartly : List (List ℕ) → Outside → Outside → Type 0
IsSaidPartly words old new =
    IsDeedWith words old.place.held (λ deed. (k : ℕ) × (new.console.said ≡ old.console.said ++ take k (said_of deed old new)))

-- what was said after each answer
abbrev pub Said : List (List ℕ) → Outside → Outside → Outcome → Type 0
Said words old new (Done rows reported) =
    old.place.tells ≡ true → IsDeedWith words old.place.held (λ deed. new.console.said ≡ old.console.said ++ said_of deed old new)
Said words old new Words = new.console.said ≡ old.console.said
Said words old new (Script fault) = new.console.said ≡ old.console.said
Said words old new (Columns fault) = new.console.said ≡ old.console.said
Said words old new (TooLarge name) = new.console.said ≡ old.console.said
Said words old new (ReadFault name) = new.console.said ≡ old.console.said
Said words old new (WriteFault name) = new.console.said ≡ old.console.said
Said words old new ConsoleFault = old.place.tells ≡ true → IsSaidPartly words old new
Said words old new NoMemory =
    (Still old.console.memory_refusals new.console.memory_refusals → new.console.said ≡ old.console.said)
    × (old.place.tells ≡ true → (new.console.said ≡ old.console.said) ⊎ IsSaidPartly words old new)

-- what was complained: the bytes, or after a refusal a prefix of them
pub record Complained (bytes : List ℕ) (old new : ConsoleState) : Type 0 where
  pub partly : (k : ℕ) × (new.complained ≡ old.complained ++ take k bytes)
  pub whole : Still old.complain_faults new.complain_faults → Still old.memory_refusals new.memory_refusals
      → new.complained ≡ old.complained ++ bytes

-- ---- what was evaluated

-- the steps rose by the evaluations that are due
abbrev pub AllWereTaken : List (List ℕ) → Outside → Outside → Type 0
AllWereTaken words old new =
    old.place.tells ≡ true → IsDeedWith words old.place.held (λ deed. new.steps ≡ old.steps + deed.evaluations)

-- how far the steps rose, each of which is the evaluation of a function
abbrev pub TakesSteps : List (List ℕ) → Outside → Outside → Outcome → Type 0
TakesSteps words old new (Done rows reported) = AllWereTaken words old new
TakesSteps words old new Words = new.steps ≡ old.steps
TakesSteps words old new (Script fault) = new.steps ≡ old.steps
TakesSteps words old new (Columns fault) = new.steps ≡ old.steps
TakesSteps words old new (TooLarge name) = new.steps ≡ old.steps
TakesSteps words old new (ReadFault name) = new.steps ≡ old.steps
TakesSteps words old new (WriteFault name) = AllWereTaken words old new
TakesSteps words old new ConsoleFault = AllWereTaken words old new
TakesSteps words old new NoMemory =
    old.place.tells ≡ true
    → (new.steps ≡ old.steps) ⊎ IsDeedWith words old.place.held (λ deed. new.steps ≤ old.steps + deed.evaluations)

-- ---- all but the complaint

-- `command` are the words
pub record Ended (command : List (List ℕ)) (old new : Outside) (outcome : Outcome) : Type 0 where
  pub cause : Cause command old new outcome
  pub words : command_of command ≡ None → (outcome ≡ Words) ⊎ (outcome ≡ NoMemory)
  pub complete : IsComplete command old new outcome
  pub stands : old.place.tells ≡ true → Stands command old.place.held new.place.held outcome
  pub said : old.console.tells ≡ true → Said command old new outcome
  pub named : FailsWithin command old.place new.place
  pub telling : KeepsTelling old.place new.place
  pub steps : TakesSteps command old new outcome
  pub meter : Follows old.steps new.steps old.meter new.meter

-- ---- the commands that run no script

-- what holds of the numbers of `Done`, where that is the outcome
abbrev pub IfDone : Outcome → (ℕ → ℕ → Type 0) → Type 0
IfDone (Done rows reported) Holds = Holds rows reported
IfDone _ Holds = Unit {0}

-- a check that is done: with no rows, of a script that is accepted with its files, and `accepted` was said
pub record IsChecked (script : Text) (old new : Outside) (rows reported : ℕ) : Type 0 where
  pub no_rows : rows ≡ 0
  pub none_reported : reported ≡ 0
  pub accepted : (files : Ready) × on_script script old.place.held (inr files)
  pub said : old.console.tells ≡ true → new.console.said ≡ old.console.said ++ accepted_line

-- `check SCRIPT` changes no file, whatever the answer is
pub record Checks (script : Text) (old new : Outside) (outcome : Outcome) : Type 0 where
  pub files : new.place.held ≡ old.place.held
  pub done : IfDone outcome (IsChecked script old new)

-- a `generate` that is done: with its number of rows, which was said, and the table stands whole under its name
pub record IsGenerated (seed count : ℕ) (file : Text) (old new : Outside) (rows reported : ℕ) : Type 0 where
  pub all_rows : rows ≡ count
  pub none_reported : reported ≡ 0
  pub files : new.place.held ≡ with_file old.place.held file (table.rows seed count)
  pub said : old.console.tells ≡ true → new.console.said ≡ old.console.said ++ rows_line count

-- `generate SEED ROWS FILE` changes no other file, and this one holds a prefix of its bytes or is as before, whatever the answer is
pub record Generates (seed count : ℕ) (file : Text) (old new : Outside) (outcome : Outcome) : Type 0 where
  pub files : IsPartly old.place.held file (table.rows seed count) new.place.held
  pub done : IfDone outcome (IsGenerated seed count file old new)

-- the commands beside `run`, over a place that tells what it holds
pub record OtherCommands (words : List (List ℕ)) (old new : Outside) (outcome : Outcome) : Type 0 where
  pub check : (script : Text) → command_of words ≡ Some (Check script) → Checks script old new outcome
  pub generate : (seed count : ℕ) (file : Text) → command_of words ≡ Some (Generate seed count file) → Generates seed count file old new outcome
