-- What is due for the words, over the files that a place holds: a refusal, or a deed.
use Rattle.std.specs.Prelude.{◌≡◌, ◌⊎◌, ℕ, List, map, Some, Contains}
use mathlib.Core.Logic.{inl, inr}
use Rattle.tx_place.specs.Place.{Held}
use Rattle.tx_names.specs.Scope.{Text}
use Rattle.tx_script.specs.Linked.{Pipe}
use Rattle.tx_script.specs.Accepted.{Accepted, Refused}
use Rattle.tx_words.specs.Words.{command_of}
use Rattle.tx_words.specs.declared.command.Command.{Command}
use Rattle.tx_words.specs.declared.command.Command.TheVariants.{Run, Check, Generate}
use Rattle.tuplex_run.specs.Words.{script_of}
use Rattle.tuplex_run.specs.Deed.{Deed, names_of}
use Rattle.tuplex_run.specs.Commands.{run_deed, check_deed, generate_deed}
use Rattle.tuplex_run.specs.Inputs.{OrRefusal, or_refuse, bytes_in, inputs_in, header_of, columns_in, Ready, ready, input_names, inputs_read}
use Rattle.tuplex_run.specs.declared.outcome.Outcome.{Outcome}
use Rattle.tuplex_run.specs.declared.outcome.Outcome.TheVariants.{Done, Words, Script}

-- ---- steps: each says of an answer, a refusal or what was asked for, whether it is its own. Which trees a text spells is such a
-- statement, and no computation

-- of two steps: a refusal of the first ends the whole, and else the second goes on with what the first gives
abbrev pub one_then : {A B : Type 0} → (OrRefusal A → Type 0) → (A → OrRefusal B → Type 0) → OrRefusal B → Type 0
one_then {A} {B} step more answer =
    ((refusal : Outcome) × step (inl refusal) × (answer ≡ inl refusal)) ⊎ ((x : A) × step (inr x) × more x answer)

infixl 10 ◌>>=◌
abbrev pub ◌>>=◌ : {A B : Type 0} → (OrRefusal A → Type 0) → (A → OrRefusal B → Type 0) → OrRefusal B → Type 0
step >>= more = one_then step more

-- a step that is computed
abbrev pub gives : {A : Type 0} → OrRefusal A → OrRefusal A → Type 0
gives x answer = answer ≡ x

-- the checks of a script: its pipe, or the first check that fails
abbrev pub checks : Text → List ℕ → OrRefusal Pipe → Type 0
checks own bytes (inr pipe) = Accepted own bytes pipe
checks own bytes (inl (Script fault)) = Refused own bytes fault
checks own bytes (inl _) = ⊥

-- on a script, whether it is accepted with its files: the script, read and then checked; its inputs in the order of the operators, each read and then
-- measured; and their columns
abbrev pub on_script : Text → Held → OrRefusal Ready → Type 0
on_script script held = do
  bytes ← gives (bytes_in held script)
  pipe ← checks script bytes
  sources ← gives (inputs_in held 1 pipe)
  columns ← gives (columns_in (map header_of sources) pipe)
  gives (inr (ready pipe sources columns))

-- ---- the verdict, in the order of the outcomes

-- a refusal, or all that the accepted command does
abbrev pub Verdict : Type 0
Verdict = OrRefusal Deed

-- the verdict on a command: of a run and of a check that on their script. How many rows are a sample, and in which order the passes
-- come, are no part of it
abbrev pub on_command : Held → Command → Verdict → Type 0
on_command held (Run script sample order stats) = do
  files ← on_script script held
  gives (inr (run_deed stats files))
on_command held (Check script) = do
  files ← on_script script held
  gives (inr check_deed)
on_command held (Generate seed count file) = gives (inr (generate_deed seed count file))

-- on the words: a command, and the verdict on it
abbrev pub IsVerdict : List (List ℕ) → Held → Verdict → Type 0
IsVerdict words held = do
  command ← gives (or_refuse Words (command_of words))
  on_command held command

-- the outcome of a verdict
abbrev pub outcome_of : Verdict → Outcome
outcome_of (inl refusal) = refusal
outcome_of (inr deed) = Done deed.rows deed.reported

-- an outcome that is due
abbrev pub IsDue : List (List ℕ) → Held → Outcome → Type 0
IsDue words held outcome = (v : Verdict) × IsVerdict words held v × (outcome ≡ outcome_of v)

-- a deed that is due, and of which this holds
abbrev pub IsDeedWith : List (List ℕ) → Held → (Deed → Type 0) → Type 0
IsDeedWith words held IsSuch = (deed : Deed) × IsVerdict words held (inr deed) × IsSuch deed

-- the command is accepted with its files
abbrev pub IsAccepted : List (List ℕ) → Held → Type 0
IsAccepted words held = IsDeedWith words held (λ deed. Unit {0})

-- ---- the names of the files that the command reads or writes

-- the pipe of the script of this name, where it is there and accepted
abbrev pub pipe_of_script : Held → Text → OrRefusal Pipe → Type 0
pipe_of_script held script = do
  bytes ← gives (bytes_in held script)
  checks script bytes

-- an input of that pipe, up to the first one that is absent or too large
abbrev pub IsInputOf : Text → Held → List ℕ → Type 0
IsInputOf script held name = (pipe : Pipe) × pipe_of_script held script (inr pipe) × Contains (inputs_read (input_names pipe) held) name

-- a file that is read for a script, up to the place where the outcome is due: the script, or one of its inputs
abbrev pub IsReadFor : Text → Held → List ℕ → Type 0
IsReadFor script held name = (name ≡ script) ⊎ IsInputOf script held name

-- a file that the command reads
abbrev pub IsReadBy : List (List ℕ) → Held → List ℕ → Type 0
IsReadBy words held name = (script : Text) × (script_of words ≡ Some script) × IsReadFor script held name

-- a file that is written; none where the command is refused
abbrev pub IsWrittenBy : List (List ℕ) → Held → List ℕ → Type 0
IsWrittenBy words held name = IsDeedWith words held (λ deed. Contains (names_of deed.writes) name)

abbrev pub IsTouchedBy : List (List ℕ) → Held → List ℕ → Type 0
IsTouchedBy words held name = IsReadBy words held name ⊎ IsWrittenBy words held name
