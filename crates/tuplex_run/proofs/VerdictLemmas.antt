-- The verdict, step by step, and that there is one.
use Rattle.std.proofs.Common.{◌≡◌, ◌∙◌, ℕ, List, Option, Some, None, Result, Ok, map, sym, ap, subst, refl, inl, inr}
use Rattle.tx_place.specs.Place.{Held}
use Rattle.tx_pipe.specs.Column.{Schema}
use Rattle.tx_records.specs.declared.csv_source.CsvSource.{CsvSource}
use Rattle.tx_script.specs.declared.fault.ScriptFault.{ScriptFault}
use Rattle.tx_script.specs.Linked.{Pipe, linked_script}
use Rattle.tx_script.specs.Checks.{blocks_in, entries, refusal}
use Rattle.tx_script.specs.Accepted.{Accepted, Refused}
use Rattle.tx_script.specs.Laws.{OneReadingLaw}
use Rattle.tx_words.specs.Words.{command_of}
use Rattle.tx_words.specs.declared.command.Command.{Command}
use Rattle.tx_words.specs.declared.command.Command.TheVariants.{Run, Check, Generate}
use Rattle.tuplex_run.specs.Commands.{run_deed, check_deed, generate_deed}
use Rattle.tuplex_run.specs.Inputs.{OrRefusal, or_then, or_refuse, bytes_in, inputs_in, header_of, columns_in, Ready, ready}
use Rattle.tuplex_run.specs.Due.{◌>>=◌, gives, checks, on_script, on_command, Verdict, IsVerdict, pipe_of_script}
use Rattle.tuplex_run.specs.Laws.{OneVerdictLaw}
use Rattle.tuplex_run.specs.Calls.Accept.{ready_on_sources, ready_on_pipe}
use Rattle.tuplex_run.specs.declared.outcome.Outcome.{Outcome}
use Rattle.tuplex_run.specs.declared.outcome.Outcome.TheVariants.{Words, Script}

-- ---- answers of steps are told apart

pub refusal_same : {A : Type 0} (a b : Outcome) → ◌≡◌ {A = OrRefusal A} (inl a) (inl b) → a ≡ b
refusal_same a b p = cc

pub given_same : {A : Type 0} (a b : A) → ◌≡◌ {A = OrRefusal A} (inr a) (inr b) → a ≡ b
given_same a b p = cc

pub no_refusal : {A : Type 0} (o : Outcome) (x : A) → ◌≡◌ {A = OrRefusal A} (inl o) (inr x) → ⊥
no_refusal o x p = cc

-- ---- the steps behind each other

abbrev behind_inputs : Pipe → List (Option CsvSource) → OrRefusal Ready → Type 0
behind_inputs pipe sources = gives (columns_in (map header_of sources) pipe) >>= (λ columns. gives (inr (ready pipe sources columns)))

abbrev behind_script : Held → Pipe → OrRefusal Ready → Type 0
behind_script held pipe = gives (inputs_in held 1 pipe) >>= behind_inputs pipe

abbrev behind_bytes : Held → List ℕ → List ℕ → OrRefusal Ready → Type 0
behind_bytes held script bytes = checks script bytes >>= behind_script held

-- ---- a script with its files

-- a script that is not read, or that fails a check
pub refused_at_script : (held : Held) (script : List ℕ) (o : Outcome) → pipe_of_script held script (inl o) → on_script script held (inl o)
refused_at_script held script o (inl h) = inl (h.0, h.1, ap inl (refusal_same o h.0 h.2))
refused_at_script held script o (inr h) = inr (h.0, h.1, inl (o, h.2, refl))

-- what the pipe of the script gives
at_pipe : (held : Held) (script : List ℕ) (pipe : Pipe) → pipe_of_script held script (inr pipe) → (r : OrRefusal Ready) → behind_script held pipe r → on_script script held r
at_pipe held script pipe (inl h) r k = absurd (no_refusal h.0 pipe (sym h.2))
at_pipe held script pipe (inr h) r k = inr (h.0, h.1, inr (pipe, h.2, k))

on_columns : (sources : List (Option CsvSource)) (pipe : Pipe) (step : OrRefusal (List Schema)) (r : OrRefusal Ready)
    → or_then step (λ columns. inr (ready pipe sources columns)) ≡ r → (gives step >>= (λ columns. gives (inr (ready pipe sources columns)))) r
on_columns sources pipe (inl o) r h = inl (o, refl, sym h)
on_columns sources pipe (inr columns) r h = inr (columns, refl, sym h)

on_inputs : (pipe : Pipe) (step : OrRefusal (List (Option CsvSource))) (r : OrRefusal Ready)
    → or_then step (ready_on_sources pipe) ≡ r → (gives step >>= behind_inputs pipe) r
on_inputs pipe (inl o) r h = inl (o, refl, sym h)
on_inputs pipe (inr sources) r h = inr (sources, refl, on_columns sources pipe (columns_in (map header_of sources) pipe) r h)

-- what is computed for a pipe is what its script gives
pub on_pipe : (held : Held) (script : List ℕ) (pipe : Pipe) → pipe_of_script held script (inr pipe) → (r : OrRefusal Ready) → ready_on_pipe held pipe ≡ r → on_script script held r
on_pipe held script pipe p r h = at_pipe held script pipe p r (on_inputs pipe (inputs_in held 1 pipe) r h)

-- ---- commands and words

-- a refusal of the script is one of the command
pub refused_then : {A : Type 0} (step : OrRefusal A → Type 0) (f : A → Verdict) (o : Outcome) → step (inl o) → (step >>= (λ x. gives (f x))) (inl o)
refused_then step f o h = inl (o, h, refl)

pub given_then : {A : Type 0} (step : OrRefusal A → Type 0) (f : A → Verdict) (x : A) → step (inr x) → (step >>= (λ x. gives (f x))) (f x)
given_then step f x h = inr (x, h, refl)

-- no command is asked for
pub at_no_words : (words : List (List ℕ)) (held : Held) → command_of words ≡ None → IsVerdict words held (inl Words)
at_no_words words held e = inl (Words, sym (ap (or_refuse Words) e), refl)

module _ (words : List (List ℕ)) (held : Held) (command : Command) (e : command_of words ≡ Some command) where
  -- the verdict on the command is that on the words
  pub at_command : (v : Verdict) → on_command held command v → IsVerdict words held v
  at_command v h = inr (command, sym (ap (or_refuse Words) e), h)

  pub of_command : (v : Verdict) → IsVerdict words held v → on_command held command v
  of_command v (inl h) = absurd (no_refusal h.0 command (h.1 ∙ ap (or_refuse Words) e))
  of_command v (inr h) = subst (λ c. on_command held c v) (given_same h.0 command (h.1 ∙ ap (or_refuse Words) e)) h.2

-- ---- there is one

abbrev IsOne : {A : Type 0} → (OrRefusal A → Type 0) → Type 0
IsOne {A} step = (r s : OrRefusal A) → step r → step s → r ≡ s

one_given : {A : Type 0} (x : OrRefusal A) → IsOne (gives x)
one_given x = λ r s a b. a ∙ sym b

one_behind : {A B : Type 0} (step : OrRefusal A → Type 0) (more : A → OrRefusal B → Type 0) → IsOne step → ((x : A) → IsOne (more x))
    → (r s : OrRefusal B) → (step >>= more) r → (step >>= more) s → r ≡ s
one_behind step more one ones r s (inl h) (inl k) =
    h.2 ∙ (ap inl (refusal_same h.0 k.0 (one (inl h.0) (inl k.0) h.1 k.1)) ∙ sym k.2)
one_behind step more one ones r s (inl h) (inr k) = absurd (no_refusal h.0 k.0 (one (inl h.0) (inr k.0) h.1 k.1))
one_behind step more one ones r s (inr h) (inl k) = absurd (no_refusal k.0 h.0 (one (inl k.0) (inr h.0) k.1 h.1))
one_behind step more one ones r s (inr h) (inr k) =
    let same : h.0 ≡ k.0 = given_same h.0 k.0 (one (inr h.0) (inr k.0) h.1 k.1) in
    ones k.0 r s (subst (λ x. more x r) same h.2) k.2

ok_same : {T E : Type 0} (a b : T) → ◌≡◌ {A = Result T E} (Ok a) (Ok b) → a ≡ b
ok_same a b p = cc

some_same : {A : Type 0} (a b : A) → ◌≡◌ {A = Option A} (Some a) (Some b) → a ≡ b
some_same a b p = cc

none_some : {A : Type 0} (a : A) → ◌≡◌ {A = Option A} None (Some a) → ⊥
none_some a p = cc

module _ (law : OneReadingLaw) (own bytes : List ℕ) where
  one_pipe : (p q : Pipe) → Accepted own bytes p → Accepted own bytes q → p ≡ q
  one_pipe p q a b =
      let same = law (blocks_in bytes) a.blocks b.blocks None None a.read b.read in
      ok_same p q (sym a.linked ∙ (ap (λ bs. linked_script (entries bs)) same.0 ∙ b.linked))

  not_both : (p : Pipe) (f : ScriptFault) → Accepted own bytes p → Refused own bytes f → ⊥
  not_both p f a b =
      let same = law (blocks_in bytes) a.blocks b.blocks None b.unread a.read b.read in
      none_some f (sym a.passes ∙ ((λ i. refusal own bytes (same.0 i) (same.1 i)) ∙ b.fails))

  one_fault : (f g : ScriptFault) → Refused own bytes f → Refused own bytes g → f ≡ g
  one_fault f g a b =
      let same = law (blocks_in bytes) a.blocks b.blocks a.unread b.unread a.read b.read in
      some_same f g (sym a.fails ∙ ((λ i. refusal own bytes (same.0 i) (same.1 i)) ∙ b.fails))

  one_check : (r s : OrRefusal Pipe) → checks own bytes r → checks own bytes s → r ≡ s
  one_check (inr p) (inr q) a b = ap inr (one_pipe p q a b)
  one_check (inr p) (inl (Script f)) a b = absurd (not_both p f a b)
  one_check (inr p) (inl _) a b = absurd b
  one_check (inl (Script f)) (inr q) a b = absurd (not_both q f b a)
  one_check (inl (Script f)) (inl (Script g)) a b = ap (λ x. inl (Script x)) (one_fault f g a b)
  one_check (inl (Script f)) (inl _) a b = absurd b
  one_check (inl _) s a b = absurd a

one_ready : OneReadingLaw → (script : List ℕ) (held : Held) → IsOne (on_script script held)
one_ready law script held =
    one_behind (gives (bytes_in held script)) (behind_bytes held script) (one_given (bytes_in held script))
    (λ bytes. one_behind (checks script bytes) (behind_script held) (one_check law script bytes)
    (λ pipe. one_behind (gives (inputs_in held 1 pipe)) (behind_inputs pipe) (one_given (inputs_in held 1 pipe))
    (λ sources. one_behind (gives (columns_in (map header_of sources) pipe)) (λ columns. gives (inr (ready pipe sources columns)))
    (one_given (columns_in (map header_of sources) pipe)) (λ columns. one_given (inr (ready pipe sources columns))))))

one_on_command : OneReadingLaw → (held : Held) (command : Command) → IsOne (on_command held command)
one_on_command law held (Run script sample order stats) =
    one_behind (on_script script held) (λ r. gives (inr (run_deed stats r))) (one_ready law script held) (λ r. one_given (inr (run_deed stats r)))
one_on_command law held (Check script) =
    one_behind (on_script script held) (λ r. gives (inr check_deed)) (one_ready law script held) (λ r. one_given (inr check_deed))
one_on_command law held (Generate seed count file) = one_given (inr (generate_deed seed count file))

pub one_verdict : OneReadingLaw → OneVerdictLaw
one_verdict law = λ words held v w a b.
    one_behind (gives (or_refuse Words (command_of words))) (on_command held) (one_given (or_refuse Words (command_of words))) (one_on_command law held) v w a b
