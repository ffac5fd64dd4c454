-- Why a command was refused before it wrote anything, a step each.
use Rattle.std.specs.Prelude.{◌≡◌, ◌≤◌, ◌⊎◌, ◌+◌, ◌++◌, ℕ, List, [], ◌∷◌, Option, Some, None, true, Contains}
use mathlib.Core.Logic.{inl, inr}
use Rattle.tx_place.specs.Count.{Rose}
use Rattle.tx_place.specs.Place.{Held, PlaceState, KeepsTelling}
use Rattle.tx_place.specs.Whole.{IsLarger}
use Rattle.tx_names.specs.Scope.{Text}
use Rattle.tx_records.specs.declared.csv_source.CsvSource.{CsvSource}
use Rattle.tx_pipe.specs.Pipe.{Name, Operation, source_file, PipeNode}
use Rattle.tx_script.specs.Linked.{Pipe}
use Rattle.tx_script.specs.Accepted.{Refused}
use Rattle.tx_words.specs.Words.{command_of}
use Rattle.tx_words.specs.declared.command.Command.{Command}
use Rattle.tuplex_run.specs.Words.{script_in}
use Rattle.tuplex_run.specs.Deed.{Deed}
use Rattle.tuplex_run.specs.Inputs.{OrRefusal, source_in, input_in, inputs_in, input_names, inputs_read}
use Rattle.tuplex_run.specs.Due.{on_script, on_command, IsVerdict, IsReadFor, IsReadBy, pipe_of_script}
use Rattle.tuplex_run.specs.Calls.Accept.{ready_on_pipe}
use Rattle.tuplex_run.specs.declared.outcome.Outcome.{Outcome}
use Rattle.tuplex_run.specs.declared.outcome.Outcome.TheVariants.{Words, Script, Columns, TooLarge, ReadFault, NoMemory}

-- what reading alone does
pub record OnlyRead (old new : PlaceState) : Type 0 where
  pub telling : KeepsTelling old new
  pub writes : new.write_faults ≡ old.write_faults
  pub open_file : new.open_file ≡ old.open_file
  pub held : old.tells ≡ true → new.held ≡ old.held
  pub counts : old.read_faults ≤ new.read_faults

-- no read failed
pub record NoReadFailed (old new : PlaceState) : Type 0 where
  pub reads : new.read_faults ≡ old.read_faults
  pub named : old.names_faults ≡ true → new.failed ≡ old.failed

-- a read failed, of the file of this name
pub record IsReadFault (name : List ℕ) (old new : PlaceState) : Type 0 where
  pub rose : Rose old.read_faults new.read_faults
  pub named : old.names_faults ≡ true → new.failed ≡ Some name

-- why a file was not read
abbrev pub ReadRefusal : List ℕ → PlaceState → PlaceState → Outcome → Type 0
ReadRefusal name old new (ReadFault n) = (n ≡ name) × IsReadFault name old new
ReadRefusal name old new NoMemory = Unit {0}
ReadRefusal name old new _ = ⊥

-- what was read of a file, or none where it is too large
abbrev pub IsRead : ℕ → Option (List ℕ) → Option (List ℕ) → Type 0
IsRead limit file None = IsLarger limit file
IsRead limit file (Some bytes) = file ≡ Some bytes

-- ---- a step that answers a refusal or what is due

-- it is refused exactly so
abbrev pub IsRefused : {A : Type 0} → OrRefusal A → Outcome → Type 0
IsRefused step refusal = step ≡ inl refusal

-- why a source was refused
abbrev pub SourceRefusal : ℕ → Text → Option (List Name) → PlaceState → PlaceState → Outcome → Type 0
SourceRefusal number name names old new (TooLarge n) =
    NoReadFailed old new × (old.tells ≡ true → IsRefused (source_in old.held number name names) (TooLarge n))
SourceRefusal number name names old new (ReadFault n) = (n ≡ name) × IsReadFault name old new
SourceRefusal number name names old new NoMemory = Unit {0}
SourceRefusal number name names old new _ = ⊥

-- why an operator's input was refused
abbrev pub InputRefusal : {F P : Type 0} → ℕ → Operation F P → PlaceState → PlaceState → Outcome → Type 0
InputRefusal number operation old new (TooLarge name) =
    NoReadFailed old new × (old.tells ≡ true → IsRefused (input_in old.held number operation) (TooLarge name))
InputRefusal number operation old new (ReadFault name) = (source_file operation ≡ Some name) × IsReadFault name old new
InputRefusal number operation old new NoMemory = Unit {0}
InputRefusal number operation old new _ = ⊥

-- why one of the inputs of operators was refused
abbrev pub InputsRefusal : {F : Type 0} → ℕ → List (PipeNode F) → PlaceState → PlaceState → Outcome → Type 0
InputsRefusal number pipe old new (TooLarge name) =
    NoReadFailed old new × (old.tells ≡ true → IsRefused (inputs_in old.held number pipe) (TooLarge name))
InputsRefusal number pipe old new (ReadFault name) =
    IsReadFault name old new × (old.tells ≡ true → Contains (inputs_read (input_names pipe) old.held) name)
InputsRefusal number pipe old new NoMemory = Unit {0}
InputsRefusal number pipe old new _ = ⊥

-- what an operator reads, behind what was read before
pub record AddsInput {F P : Type 0} (held : Held) (number : ℕ) (operation : Operation F P) (before after : List (Option CsvSource)) : Type 0 where
  pub source : Option CsvSource
  pub is : input_in held number operation ≡ inr source
  pub added : after ≡ before ++ source ∷ []

-- what operators read, behind what was read before
pub record AddsInputs {F : Type 0} (held : Held) (number : ℕ) (pipe : List (PipeNode F)) (before after : List (Option CsvSource)) : Type 0 where
  pub more : List (Option CsvSource)
  pub are : inputs_in held number pipe ≡ inr more
  pub added : after ≡ before ++ more

-- why a step was refused that asks for columns
abbrev pub ColumnsRefusal : {A : Type 0} → OrRefusal A → Outcome → Type 0
ColumnsRefusal step (Columns fault) = IsRefused step (Columns fault)
ColumnsRefusal step NoMemory = Unit {0}
ColumnsRefusal step _ = ⊥

-- how far the steps rose at a refusal: by none, or where memory was refused by at most those of the deed that is due, where that is known
abbrev pub RefusalSteps : Type 0 → (Deed → Type 0) → ℕ → ℕ → Outcome → Type 0
RefusalSteps known IsIt old new NoMemory = known → (new ≡ old) ⊎ ((deed : Deed) × IsIt deed × (new ≤ old + deed.evaluations))
RefusalSteps known IsIt old new _ = new ≡ old

-- why the files of a script were refused once it was accepted
abbrev pub PipeRefusal : Pipe → PlaceState → PlaceState → Outcome → Type 0
PipeRefusal pipe old new (Columns fault) =
    NoReadFailed old new × (old.tells ≡ true → IsRefused (ready_on_pipe old.held pipe) (Columns fault))
PipeRefusal pipe old new (TooLarge name) =
    NoReadFailed old new × (old.tells ≡ true → IsRefused (ready_on_pipe old.held pipe) (TooLarge name))
PipeRefusal pipe old new (ReadFault name) =
    IsReadFault name old new × (old.tells ≡ true → Contains (inputs_read (input_names pipe) old.held) name)
PipeRefusal pipe old new NoMemory = Unit {0}
PipeRefusal pipe old new _ = ⊥

-- why the bytes of a script were refused
abbrev pub CheckRefusal : List ℕ → List ℕ → Outcome → Type 0
CheckRefusal script bytes (Script fault) = Refused script bytes fault
CheckRefusal script bytes NoMemory = Unit {0}
CheckRefusal script bytes _ = ⊥

-- why a script was refused
abbrev pub ScriptRefusal : List ℕ → PlaceState → PlaceState → Outcome → Type 0
ScriptRefusal script old new (Script fault) =
    NoReadFailed old new × (old.tells ≡ true → pipe_of_script old.held script (inl (Script fault)))
ScriptRefusal script old new (ReadFault name) = (name ≡ script) × IsReadFault name old new
ScriptRefusal script old new NoMemory = Unit {0}
ScriptRefusal script old new _ = ⊥

-- ---- a script with its files

-- the refusal of a script with its files is due, and no read failed
abbrev pub RefusesScript : List ℕ → PlaceState → PlaceState → Outcome → Type 0
RefusesScript script old new refusal = NoReadFailed old new × (old.tells ≡ true → on_script script old.held (inl refusal))

-- why a script or its files were refused
abbrev pub PreparedRefusal : List ℕ → PlaceState → PlaceState → Outcome → Type 0
PreparedRefusal script old new (Script fault) = RefusesScript script old new (Script fault)
PreparedRefusal script old new (Columns fault) = RefusesScript script old new (Columns fault)
PreparedRefusal script old new (TooLarge name) = RefusesScript script old new (TooLarge name)
PreparedRefusal script old new (ReadFault name) = IsReadFault name old new × (old.tells ≡ true → IsReadFor script old.held name)
PreparedRefusal script old new NoMemory = Unit {0}
PreparedRefusal script old new _ = ⊥

-- ---- a command

-- a file that a command reads
abbrev pub IsReadIn : Command → Held → List ℕ → Type 0
IsReadIn command held name = (script : Text) × (script_in command ≡ Some script) × IsReadFor script held name

-- the refusal of a command is due, and no read failed
abbrev pub RefusesCommand : Command → PlaceState → PlaceState → Outcome → Type 0
RefusesCommand command old new refusal = NoReadFailed old new × (old.tells ≡ true → on_command old.held command (inl refusal))

-- why a command was refused
abbrev pub CommandRefusal : Command → PlaceState → PlaceState → Outcome → Type 0
CommandRefusal command old new (Script fault) = RefusesCommand command old new (Script fault)
CommandRefusal command old new (Columns fault) = RefusesCommand command old new (Columns fault)
CommandRefusal command old new (TooLarge name) = RefusesCommand command old new (TooLarge name)
CommandRefusal command old new (ReadFault name) = IsReadFault name old new × (old.tells ≡ true → IsReadIn command old.held name)
CommandRefusal command old new NoMemory = Unit {0}
CommandRefusal command old new _ = ⊥

-- ---- the words

-- the refusal is due, and no read failed
abbrev pub RefusesDue : List (List ℕ) → PlaceState → PlaceState → Outcome → Type 0
RefusesDue words old new refusal = NoReadFailed old new × (old.tells ≡ true → IsVerdict words old.held (inl refusal))

-- why the words were refused
abbrev pub Refusal : List (List ℕ) → PlaceState → PlaceState → Outcome → Type 0
Refusal words old new Words = (command_of words ≡ None) × NoReadFailed old new
Refusal words old new (Script fault) = RefusesDue words old new (Script fault)
Refusal words old new (Columns fault) = RefusesDue words old new (Columns fault)
Refusal words old new (TooLarge name) = RefusesDue words old new (TooLarge name)
Refusal words old new (ReadFault name) =
    IsReadFault name old new × (old.tells ≡ true → IsReadBy words old.held name)
Refusal words old new NoMemory = Unit {0}
Refusal words old new _ = ⊥
