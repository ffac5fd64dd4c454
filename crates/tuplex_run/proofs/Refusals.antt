-- Why a command was refused, from the refusals of its steps.
use Rattle.std.proofs.Common.{◌≡◌, ◌∙◌, ◌≤◌, ◌+◌, ℕ, List, [], ◌∷◌, Option, Some, true, map, sym, ap, subst, refl, inl, inr, ◌⊎◌, Contains}
use Rattle.tx_place.specs.Count.{Rose}
use Rattle.tx_place.specs.Place.{PlaceState, Held}
use Rattle.tx_pipe.specs.Column.{Schema}
use Rattle.tx_records.specs.declared.csv_source.CsvSource.{CsvSource}
use Rattle.tx_script.specs.Linked.{Pipe}
use Rattle.std.specs.Prelude.{option_and_then}
use Rattle.tx_words.specs.Words.{command_of}
use Rattle.tx_words.specs.declared.command.Command.{Command}
use Rattle.tuplex_run.specs.Words.{script_in}
use Rattle.tuplex_run.specs.Deed.{Deed}
use Rattle.tuplex_run.specs.Inputs.{OrRefusal, or_then, inputs_in, header_of, columns_in, Ready, ready, inputs_read, input_names}
use Rattle.tuplex_run.specs.Due.{on_script, on_command, IsReadFor, IsReadBy, pipe_of_script}
use Rattle.tuplex_run.specs.Ends.{FailedAmong}
use Rattle.tuplex_run.specs.Calls.Accept.{ready_on_pipe, ready_on_sources}
use Rattle.tuplex_run.specs.Calls.Refusals.{OnlyRead, NoReadFailed, IsReadFault, ScriptRefusal, InputsRefusal, ColumnsRefusal, PipeRefusal, PreparedRefusal, CommandRefusal, IsReadIn, RefusalSteps, Refusal}
use Rattle.tuplex_run.specs.declared.outcome.Outcome.{Outcome}
use Rattle.tuplex_run.specs.declared.outcome.Outcome.TheVariants.{Done, Words, Script, Columns, TooLarge, ReadFault, WriteFault, ConsoleFault, NoMemory}
use Rattle.tuplex_run.proofs.Failures.{among_more, among_later, only_one}
use Rattle.tuplex_run.proofs.VerdictLemmas.{refused_at_script, on_pipe, at_command}

-- ---- one reading behind another

pub later_fault : (name : List ℕ) (old mid new : PlaceState) → OnlyRead old mid → NoReadFailed old mid → IsReadFault name mid new → IsReadFault name old new
later_fault name old mid new only still h = record {
  rose = subst (λ n. Rose n new.read_faults) still.reads h.rose;
  named = λ t. h.named (only.telling.names_faults ∙ t);
}

pub none_later : (old mid new : PlaceState) → OnlyRead old mid → NoReadFailed old mid → NoReadFailed mid new → NoReadFailed old new
none_later old mid new only still h = record {
  reads = h.reads ∙ still.reads;
  named = λ t. h.named (only.telling.names_faults ∙ t) ∙ still.named t;
}

-- ---- how far the steps rose

pub no_steps : (known : Type 0) (IsIt : Deed → Type 0) (steps : ℕ) (o : Outcome) → RefusalSteps known IsIt steps steps o
no_steps known IsIt steps NoMemory = λ k. inl refl
no_steps known IsIt steps (Done rows reported) = refl
no_steps known IsIt steps Words = refl
no_steps known IsIt steps (Script fault) = refl
no_steps known IsIt steps (Columns fault) = refl
no_steps known IsIt steps (TooLarge name) = refl
no_steps known IsIt steps (ReadFault name) = refl
no_steps known IsIt steps (WriteFault name) = refl
no_steps known IsIt steps ConsoleFault = refl

-- a deed of one kind is one of another
deed_of_kind : (P Q : Deed → Type 0) (old new : ℕ) → ((deed : Deed) → P deed → Q deed)
    → (new ≡ old) ⊎ ((deed : Deed) × P deed × (new ≤ old + deed.evaluations)) → (new ≡ old) ⊎ ((deed : Deed) × Q deed × (new ≤ old + deed.evaluations))
deed_of_kind P Q old new f (inl e) = inl e
deed_of_kind P Q old new f (inr h) = inr (h.0, f h.0 h.1, h.2)

pub steps_of_kind : (known more : Type 0) (P Q : Deed → Type 0) (old new : ℕ) → (more → known) → (more → (deed : Deed) → P deed → Q deed)
    → (o : Outcome) → RefusalSteps known P old new o → RefusalSteps more Q old new o
steps_of_kind known more P Q old new f e NoMemory h = λ k. deed_of_kind P Q old new (e k) (h (f k))
steps_of_kind known more P Q old new f e (Done rows reported) h = h
steps_of_kind known more P Q old new f e Words h = h
steps_of_kind known more P Q old new f e (Script fault) h = h
steps_of_kind known more P Q old new f e (Columns fault) h = h
steps_of_kind known more P Q old new f e (TooLarge name) h = h
steps_of_kind known more P Q old new f e (ReadFault name) h = h
steps_of_kind known more P Q old new f e (WriteFault name) h = h
steps_of_kind known more P Q old new f e ConsoleFault h = h

-- ---- columns

-- what follows the columns
abbrev with_columns : List (Option CsvSource) → Pipe → OrRefusal (List Schema) → OrRefusal Ready
with_columns sources pipe step = or_then step (λ columns. inr (ready pipe sources columns))

pub columns_refused : (sources : List (Option CsvSource)) (pipe : Pipe) (o : Outcome)
    → ColumnsRefusal (columns_in (map header_of sources) pipe) o → ColumnsRefusal (ready_on_sources pipe sources) o
columns_refused sources pipe (Columns fault) h = ap (with_columns sources pipe) h
columns_refused sources pipe NoMemory h = h
columns_refused sources pipe (Done rows reported) h = absurd h
columns_refused sources pipe Words h = absurd h
columns_refused sources pipe (Script fault) h = absurd h
columns_refused sources pipe (TooLarge name) h = absurd h
columns_refused sources pipe (ReadFault name) h = absurd h
columns_refused sources pipe (WriteFault name) h = absurd h
columns_refused sources pipe ConsoleFault h = absurd h

-- the columns are there
pub columns_found : (sources : List (Option CsvSource)) (pipe : Pipe) (columns : List Schema) → columns_in (map header_of sources) pipe ≡ inr columns
    → ready_on_sources pipe sources ≡ inr (ready pipe sources columns)
columns_found sources pipe columns h = ap (with_columns sources pipe) h

-- ---- inputs

abbrev with_sources : Pipe → OrRefusal (List (Option CsvSource)) → OrRefusal Ready
with_sources pipe step = or_then step (ready_on_sources pipe)

-- the inputs are read
pub sources_found : (held : Held) (pipe : Pipe) (sources : List (Option CsvSource)) → inputs_in held 1 pipe ≡ inr sources → ready_on_pipe held pipe ≡ ready_on_sources pipe sources
sources_found held pipe sources h = ap (with_sources pipe) h

pub inputs_refused : (pipe : Pipe) (old new : PlaceState) (o : Outcome) → InputsRefusal 1 pipe old new o → PipeRefusal pipe old new o
inputs_refused pipe old new (TooLarge name) h = (h.0, λ t. ap (with_sources pipe) (h.1 t))
inputs_refused pipe old new (ReadFault name) h = h
inputs_refused pipe old new NoMemory h = h
inputs_refused pipe old new (Done rows reported) h = absurd h
inputs_refused pipe old new Words h = absurd h
inputs_refused pipe old new (Script fault) h = absurd h
inputs_refused pipe old new (Columns fault) h = absurd h
inputs_refused pipe old new (WriteFault name) h = absurd h
inputs_refused pipe old new ConsoleFault h = absurd h

pub run_refused : (pipe : Pipe) (old new : PlaceState) (sources : List (Option CsvSource)) → NoReadFailed old new → (old.tells ≡ true → inputs_in old.held 1 pipe ≡ inr sources)
    → (o : Outcome) → ColumnsRefusal (ready_on_sources pipe sources) o → PipeRefusal pipe old new o
run_refused pipe old new sources still e (Columns fault) h = (still, λ t. sources_found old.held pipe sources (e t) ∙ h)
run_refused pipe old new sources still e NoMemory h = h
run_refused pipe old new sources still e (Done rows reported) h = absurd h
run_refused pipe old new sources still e Words h = absurd h
run_refused pipe old new sources still e (Script fault) h = absurd h
run_refused pipe old new sources still e (TooLarge name) h = absurd h
run_refused pipe old new sources still e (ReadFault name) h = absurd h
run_refused pipe old new sources still e (WriteFault name) h = absurd h
run_refused pipe old new sources still e ConsoleFault h = absurd h

-- ---- the script

module _ (old new : PlaceState) (script : List ℕ) where
  pub script_refused : (o : Outcome) → ScriptRefusal script old new o → PreparedRefusal script old new o
  script_refused (Script fault) h = (h.0, λ t. refused_at_script old.held script (Script fault) (h.1 t))
  script_refused (ReadFault name) h = (h.1, λ t. inl h.0)
  script_refused NoMemory h = h
  script_refused (Done rows reported) h = absurd h
  script_refused Words h = absurd h
  script_refused (Columns fault) h = absurd h
  script_refused (TooLarge name) h = absurd h
  script_refused (WriteFault name) h = absurd h
  script_refused ConsoleFault h = absurd h

  -- the name of the last call that failed, where the script is read
  pub failed_at_script : FailedAmong (Contains (script ∷ [])) old new → FailedAmong (IsReadFor script old.held) old new
  failed_at_script h = among_more (Contains (script ∷ [])) (IsReadFor script old.held) old new (λ name c. inl (only_one script name c)) h

-- ---- its files behind it

module _ (old mid new : PlaceState) (script : List ℕ) (pipe : Pipe)
    (only : OnlyRead old mid) (still : NoReadFailed old mid) (p : old.tells ≡ true → pipe_of_script old.held script (inr pipe)) where
  -- what the pipe gives is what the script gives
  pub of_script : (r : OrRefusal Ready) → old.tells ≡ true → ready_on_pipe mid.held pipe ≡ r → on_script script old.held r
  of_script r t h =
      let there : ready_on_pipe old.held pipe ≡ r = subst (λ (held : Held). ready_on_pipe held pipe ≡ r) (only.held t) h in
      on_pipe old.held script pipe (p t) r there

  pub files_refused : (o : Outcome) → PipeRefusal pipe mid new o → PreparedRefusal script old new o
  files_refused (Columns fault) h = (none_later old mid new only still h.0, λ t. of_script (inl (Columns fault)) t (h.1 (only.telling.tells ∙ t)))
  files_refused (TooLarge name) h = (none_later old mid new only still h.0, λ t. of_script (inl (TooLarge name)) t (h.1 (only.telling.tells ∙ t)))
  files_refused (ReadFault name) h = (
    later_fault name old mid new only still h.0,
    λ t.
        let there : Contains (inputs_read (input_names pipe) old.held) name =
        subst (λ (held : Held). Contains (inputs_read (input_names pipe) held) name) (only.held t) (h.1 (only.telling.tells ∙ t)) in
        inr (pipe, p t, there),
  )
  files_refused NoMemory h = h
  files_refused (Done rows reported) h = absurd h
  files_refused Words h = absurd h
  files_refused (Script fault) h = absurd h
  files_refused (WriteFault name) h = absurd h
  files_refused ConsoleFault h = absurd h

  pub failed_at_inputs : (mid.tells ≡ true → mid.names_faults ≡ true → FailedAmong (Contains (inputs_read (input_names pipe) mid.held)) mid new)
      → old.tells ≡ true → old.names_faults ≡ true → FailedAmong (IsReadFor script old.held) old new
  failed_at_inputs f t n =
      let h : FailedAmong (Contains (inputs_read (input_names pipe) old.held)) mid new =
      subst (λ (held : Held). FailedAmong (Contains (inputs_read (input_names pipe) held)) mid new) (only.held t)
      (f (only.telling.tells ∙ t) (only.telling.names_faults ∙ n)) in
      among_more (Contains (inputs_read (input_names pipe) old.held)) (IsReadFor script old.held) old new (λ name c. inr (pipe, p t, c))
      (among_later (Contains (inputs_read (input_names pipe) old.held)) old mid new (still.named n) h)

-- ---- a command that names the script

module _ (command : Command) (old new : PlaceState) (script : List ℕ) (names : script_in command ≡ Some script) where
  pub command_refused : ((o : Outcome) → on_script script old.held (inl o) → on_command old.held command (inl o))
      → (o : Outcome) → PreparedRefusal script old new o → CommandRefusal command old new o
  command_refused f (Script fault) h = (h.0, λ t. f (Script fault) (h.1 t))
  command_refused f (Columns fault) h = (h.0, λ t. f (Columns fault) (h.1 t))
  command_refused f (TooLarge name) h = (h.0, λ t. f (TooLarge name) (h.1 t))
  command_refused f (ReadFault name) h = (h.0, λ t. (script, names, h.1 t))
  command_refused f NoMemory h = h
  command_refused f (Done rows reported) h = absurd h
  command_refused f Words h = absurd h
  command_refused f (WriteFault name) h = absurd h
  command_refused f ConsoleFault h = absurd h

  pub failed_for : FailedAmong (IsReadFor script old.held) old new → FailedAmong (IsReadIn command old.held) old new
  failed_for h = among_more (IsReadFor script old.held) (IsReadIn command old.held) old new (λ name r. (script, names, r)) h

-- where memory was refused
pub no_memory_command : (command : Command) (old new : PlaceState) (o : Outcome) → o ≡ NoMemory → CommandRefusal command old new o
no_memory_command command old new o m = subst (CommandRefusal command old new) (sym m) tt

pub no_memory_steps : (known : Type 0) (IsIt : Deed → Type 0) (old new : ℕ) (deed : Deed) → (known → IsIt deed) → new ≤ old + deed.evaluations
    → (o : Outcome) → o ≡ NoMemory → RefusalSteps known IsIt old new o
no_memory_steps known IsIt old new deed h most o m = subst (RefusalSteps known IsIt old new) (sym m) (λ k. inr (deed, h k, most))

-- ---- the words of a command

module _ (words : List (List ℕ)) (command : Command) (old new : PlaceState) (e : command_of words ≡ Some command) where
  pub words_refused : (o : Outcome) → CommandRefusal command old new o → Refusal words old new o
  words_refused (Script fault) h = (h.0, λ t. at_command words old.held command e (inl (Script fault)) (h.1 t))
  words_refused (Columns fault) h = (h.0, λ t. at_command words old.held command e (inl (Columns fault)) (h.1 t))
  words_refused (TooLarge name) h = (h.0, λ t. at_command words old.held command e (inl (TooLarge name)) (h.1 t))
  words_refused (ReadFault name) h = (h.0, λ t. let r = h.1 t in (r.0, ap (option_and_then script_in) e ∙ r.1, r.2))
  words_refused NoMemory h = h
  words_refused (Done rows reported) h = absurd h
  words_refused Words h = absurd h
  words_refused (WriteFault name) h = absurd h
  words_refused ConsoleFault h = absurd h

  pub failed_by : FailedAmong (IsReadIn command old.held) old new → FailedAmong (IsReadBy words old.held) old new
  failed_by h = among_more (IsReadIn command old.held) (IsReadBy words old.held) old new (λ name r. (r.0, ap (option_and_then script_in) e ∙ r.1, r.2)) h
