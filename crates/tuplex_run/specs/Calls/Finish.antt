-- The part that writes, and the part that says.
use Rattle.std.specs.Prelude.{◌≡◌, ◌≤◌, ◌⊎◌, ◌++◌, ℕ, List, Some, true, Contains, take}
use Rattle.tx_place.specs.Count.{Rose, Still}
use Rattle.tx_place.specs.Place.{Held, PlaceState}
use Rattle.tx_place.specs.Console.{ConsoleState}
use Rattle.tuplex_run.specs.Deed.{names_of, written, IsWrittenPartly}
use Rattle.tuplex_run.specs.declared.accept.Accepted.{Accepted}
use Rattle.tuplex_run.specs.declared.outcome.Outcome.{Outcome}
use Rattle.tuplex_run.specs.declared.outcome.Outcome.TheVariants.{Done, Script, Columns, TooLarge, ReadFault, WriteFault, ConsoleFault, NoMemory}

-- no write failed
pub record NoWriteFailed (old new : PlaceState) : Type 0 where
  pub writes : new.write_faults ≡ old.write_faults
  pub named : old.names_faults ≡ true → new.failed ≡ old.failed

-- why not all files were written
abbrev pub WriteRefusal : List (List ℕ) → PlaceState → PlaceState → Outcome → Type 0
WriteRefusal names old new (WriteFault name) =
    Contains names name × Rose old.write_faults new.write_faults × (old.names_faults ≡ true → new.failed ≡ Some name)
WriteRefusal names old new NoMemory = Unit {0}
WriteRefusal names old new _ = ⊥

-- why an accepted command ended so
abbrev pub FinishCause : Accepted → PlaceState → PlaceState → ConsoleState → ConsoleState → Outcome → Type 0
FinishCause run old new was now (Done rows reported) =
    (rows ≡ run.rows) × (reported ≡ run.reported)
    × NoWriteFailed old new × (now.say_faults ≡ was.say_faults)
FinishCause run old new was now (WriteFault name) =
    WriteRefusal (names_of run.writes) old new (WriteFault name) × (now.say_faults ≡ was.say_faults)
FinishCause run old new was now ConsoleFault = NoWriteFailed old new × Rose was.say_faults now.say_faults
FinishCause run old new was now NoMemory = Unit {0}
FinishCause run old new was now _ = ⊥

-- the files of an accepted command
abbrev pub FilesLeft : List (List ℕ × List ℕ) → Held → Held → Outcome → Type 0
FilesLeft writes old new (Done rows reported) = new ≡ written writes old
FilesLeft writes old new (WriteFault name) = IsWrittenPartly writes old new
FilesLeft writes old new ConsoleFault = new ≡ written writes old
FilesLeft writes old new NoMemory = IsWrittenPartly writes old new
FilesLeft writes old new _ = ⊥

-- what it said
abbrev pub LineLeft : List ℕ → ConsoleState → ConsoleState → Outcome → Type 0
LineLeft line old new (Done rows reported) = new.said ≡ old.said ++ line
LineLeft line old new (WriteFault name) = new.said ≡ old.said
LineLeft line old new ConsoleFault = (k : ℕ) × (new.said ≡ old.said ++ take k line)
LineLeft line old new NoMemory =
    (Still old.memory_refusals new.memory_refusals → new.said ≡ old.said) × ((k : ℕ) × (new.said ≡ old.said ++ take k line))
LineLeft line old new _ = ⊥

-- what the console keeps before a complaint
pub record OnlySays (old new : ConsoleState) : Type 0 where
  pub tells : new.tells ≡ old.tells
  pub complain_faults : new.complain_faults ≡ old.complain_faults
  pub memory_refusals : old.memory_refusals ≤ new.memory_refusals
  pub complained : old.tells ≡ true → new.complained ≡ old.complained

-- what it keeps at a complaint
pub record OnlyComplains (old new : ConsoleState) : Type 0 where
  pub tells : new.tells ≡ old.tells
  pub say_faults : new.say_faults ≡ old.say_faults
  pub memory_refusals : old.memory_refusals ≤ new.memory_refusals
  pub said : old.tells ≡ true → new.said ≡ old.said

-- the outcome after the complaint: the same one, or that the text of the complaint found no memory
abbrev pub Turns : Outcome → Outcome → Type 0
Turns (Script fault) result = (result ≡ Script fault) ⊎ (result ≡ NoMemory)
Turns (Columns fault) result = (result ≡ Columns fault) ⊎ (result ≡ NoMemory)
Turns (TooLarge name) result = (result ≡ TooLarge name) ⊎ (result ≡ NoMemory)
Turns (ReadFault name) result = (result ≡ ReadFault name) ⊎ (result ≡ NoMemory)
Turns (WriteFault name) result = (result ≡ WriteFault name) ⊎ (result ≡ NoMemory)
Turns outcome result = result ≡ outcome
