-- How a command ends, from its parts.
use Rattle.std.proofs.Common.{◌≡◌, ◌∙◌, ◌≤◌, ◌+◌, ◌-◌, ◌++◌, ℕ, List, [], Option, None, Some, Result, Err, true, take, sym, ap, subst, refl, inl, inr, ◌⊎◌, arith, append-nil, Contains}
use Rattle.std.specs.Prelude.{IsSome, if◌then◌else◌}
use Rattle.std.proofs.Math.Seq.{take-nil}
use Rattle.tx_base.specs.Count.{counted}
use Rattle.tx_base.specs.declared.meter.Meter.{Meter}
use Rattle.tx_place.specs.Count.{Rose, Still}
use Rattle.tx_place.specs.Place.{PlaceState, Held, KeepsTelling}
use Rattle.tx_place.specs.Console.{ConsoleState}
use Rattle.tx_script.specs.declared.fault.ScriptFault.{ScriptFault}
use Rattle.tx_plain.specs.Counts.{Follows}
use Rattle.tx_words.specs.Words.{command_of}
use Rattle.tuplex_run.specs.Commands.{stats_line}
use Rattle.tuplex_run.specs.Deed.{Deed, names_of, written, IsWrittenPartly}
use Rattle.tuplex_run.specs.Outside.{Outside, outside}
use Rattle.tuplex_run.specs.Complaint.{complaint}
use Rattle.tuplex_run.specs.Status.{status_of}
use Rattle.tuplex_run.specs.Due.{IsVerdict, outcome_of, IsDeedWith, IsReadBy, IsTouchedBy}
use Rattle.tuplex_run.specs.Laws.{OneVerdictLaw}
use Rattle.tuplex_run.specs.Ends.{said_of, RunsPlainly, IsComplete, HasNoMoreFaults, Cause, FailedAmong, Stands, IsSaidPartly, Said, Complained, TakesSteps, Ended}
use Rattle.tuplex_run.specs.Calls.Accept.{as_deed, text_of}
use Rattle.tuplex_run.specs.Calls.Refusals.{OnlyRead, NoReadFailed, Refusal, RefusalSteps}
use Rattle.tuplex_run.specs.Calls.Finish.{FinishCause, FilesLeft, LineLeft, OnlySays, OnlyComplains, Turns}
use Rattle.tuplex_run.specs.declared.accept.Accepted.{Accepted}
use Rattle.tuplex_run.specs.declared.outcome.ColumnFault.{ColumnFault}
use Rattle.tuplex_run.specs.declared.outcome.Outcome.{Outcome}
use Rattle.tuplex_run.specs.declared.outcome.Outcome.TheVariants.{Done, Words, Script, Columns, TooLarge, ReadFault, WriteFault, ConsoleFault, NoMemory}
use Rattle.tuplex_run.proofs.VerdictLemmas.{at_no_words, given_same}
use Rattle.tuplex_run.proofs.Failures.{among_more}
use Rattle.tuplex_run.proofs.Causes.{finished_cause, failed_at_write}

-- ---- the due outcome comes where nothing failed

not_still : (old new : ℕ) → Rose old new → Still old new → ⊥
not_still old new rose still = let more = rose still.0 in omega (arith, more, still.1)

pub complete_of : (words : List (List ℕ)) (old new : Outside) (o : Outcome) → Cause words old new o → IsComplete words old new o
complete_of words old new (Done rows reported) c = λ t f n. c.1 t
complete_of words old new Words c = λ t f n. (inl Words, at_no_words words old.place.held c.1, refl)
complete_of words old new (Script fault) c = λ t f n. c.1 t
complete_of words old new (Columns fault) c = λ t f n. c.1 t
complete_of words old new (TooLarge name) c = λ t f n. c.1 t
complete_of words old new (ReadFault name) c = λ t f n. absurd (not_still old.place.read_faults new.place.read_faults c.0.reads f.reads)
complete_of words old new (WriteFault name) c = λ t f n. absurd (not_still old.place.write_faults new.place.write_faults c.0.writes f.writes)
complete_of words old new ConsoleFault c = λ t f n. absurd (not_still old.console.say_faults new.console.say_faults c.0.says f.says)
complete_of words old new NoMemory c = λ t f n. absurd (n refl)

-- ---- a command that was refused

at_most : (a b : ℕ) → a ≡ b → a ≤ b
at_most a b e = omega (arith, e)

module _ (words : List (List ℕ)) (old new : PlaceState) (was : ConsoleState) (s s' : ℕ) (m m' : Meter) (only : OnlyRead old new) where
  no_more : NoReadFailed old new → HasNoMoreFaults (outside old was s m) (outside new was s' m')
  no_more still = record {
    reads = at_most new.read_faults old.read_faults still.reads;
    writes = at_most new.write_faults old.write_faults only.writes;
    says = at_most was.say_faults was.say_faults refl;
    named = still.named;
  }

  refused_cause : (o : Outcome) → Refusal words old new o → Cause words (outside old was s m) (outside new was s' m') o
  refused_cause Words h = (no_more h.1, h.0)
  refused_cause (Script fault) h = (no_more h.0, λ t. (inl (Script fault), h.1 t, refl))
  refused_cause (Columns fault) h = (no_more h.0, λ t. (inl (Columns fault), h.1 t, refl))
  refused_cause (TooLarge name) h = (no_more h.0, λ t. (inl (TooLarge name), h.1 t, refl))
  refused_cause (ReadFault name) h = (
    record {
      reads = h.0.rose;
      writes = at_most new.write_faults old.write_faults only.writes;
      says = at_most was.say_faults was.say_faults refl;
      named = h.0.named;
    },
    h.1,
  )
  refused_cause NoMemory h = h
  refused_cause (Done rows reported) h = absurd h
  refused_cause (WriteFault name) h = absurd h
  refused_cause ConsoleFault h = absurd h

  refused_stands : (o : Outcome) → Refusal words old new o → new.held ≡ old.held → Stands words old.held new.held o
  refused_stands Words h e = e
  refused_stands (Script fault) h e = e
  refused_stands (Columns fault) h e = e
  refused_stands (TooLarge name) h e = e
  refused_stands (ReadFault name) h e = e
  refused_stands NoMemory h e = inl e
  refused_stands (Done rows reported) h e = absurd h
  refused_stands (WriteFault name) h e = absurd h
  refused_stands ConsoleFault h e = absurd h

  refused_said : (o : Outcome) → Refusal words old new o → Said words (outside old was s m) (outside new was s' m') o
  refused_said Words h = refl
  refused_said (Script fault) h = refl
  refused_said (Columns fault) h = refl
  refused_said (TooLarge name) h = refl
  refused_said (ReadFault name) h = refl
  refused_said NoMemory h = (λ k. refl, λ t. inl refl)
  refused_said (Done rows reported) h = absurd h
  refused_said (WriteFault name) h = absurd h
  refused_said ConsoleFault h = absurd h

  refused_steps : (o : Outcome) → Refusal words old new o → RefusalSteps (old.tells ≡ true) (λ deed. IsVerdict words old.held (inr deed)) s s' o
      → TakesSteps words (outside old was s m) (outside new was s' m') o
  refused_steps Words h r = r
  refused_steps (Script fault) h r = r
  refused_steps (Columns fault) h r = r
  refused_steps (TooLarge name) h r = r
  refused_steps (ReadFault name) h r = r
  refused_steps NoMemory h r = r
  refused_steps (Done rows reported) h r = absurd h
  refused_steps (WriteFault name) h r = absurd h
  refused_steps ConsoleFault h r = absurd h

  pub refused_ended : (o : Outcome) → Refusal words old new o
      → (command_of words ≡ None → (o ≡ Words) ⊎ (o ≡ NoMemory))
      → (old.tells ≡ true → old.names_faults ≡ true → FailedAmong (IsReadBy words old.held) old new)
      → RefusalSteps (old.tells ≡ true) (λ deed. IsVerdict words old.held (inr deed)) s s' o
      → Follows s s' m m'
      → Ended words (outside old was s m) (outside new was s' m') o
  refused_ended o h unread named steps counts =
      let c = refused_cause o h in
      record {
        cause = c;
        words = unread;
        complete = complete_of words (outside old was s m) (outside new was s' m') o c;
        stands = λ t. refused_stands o h (only.held t);
        said = λ t. refused_said o h;
        named = λ t n. among_more (IsReadBy words old.held) (IsTouchedBy words old.held) old new (λ name r. inl r) (named t n);
        telling = only.telling;
        steps = refused_steps o h steps;
        meter = counts;
      }

-- ---- an accepted one

not_none : {T : Type 0} (o : Option T) → o ≡ None → IsSome o → ⊥
not_none None e h = cc
not_none (Some x) e h = cc

rise_is : (s s' : ℕ) → s ≤ s' → s' ≡ s + (s' - s)
rise_is s s' le = omega (arith, le)

all_is_most : (s s' count : ℕ) → s' ≡ s + count → s' ≤ s + count
all_is_most s s' count e = omega (arith, e)

module _ (words : List (List ℕ)) (old mid new : PlaceState) (was now : ConsoleState) (run : Accepted) (s s' : ℕ) (m m' : Meter)
    (only : OnlyRead old mid) (still : NoReadFailed old mid) (telling : KeepsTelling mid new) (reads : new.read_faults ≡ mid.read_faults)
    (accepted : old.tells ≡ true → IsVerdict words old.held (inr (as_deed run (s' - s)))) (counts : Follows s s' m m')
    (none : m.interp ≡ 0) (never : m.typed ≡ 0) where
  -- the deed that is due
  with_deed : (P : Deed → Type 0) → old.tells ≡ true → P (as_deed run (s' - s)) → IsDeedWith words old.held P
  with_deed P t h = (as_deed run (s' - s), accepted t, h)

  finished_stands : (o : Outcome) → FilesLeft run.writes old.held new.held o → old.tells ≡ true → Stands words old.held new.held o
  finished_stands (Done rows reported) h t = with_deed (λ deed. new.held ≡ written deed.writes old.held) t h
  finished_stands (WriteFault name) h t = with_deed (λ deed. IsWrittenPartly deed.writes old.held new.held) t h
  finished_stands ConsoleFault h t = with_deed (λ deed. new.held ≡ written deed.writes old.held) t h
  finished_stands NoMemory h t = inr (with_deed (λ deed. IsWrittenPartly deed.writes old.held new.held) t h)
  finished_stands Words h t = absurd h
  finished_stands (Script fault) h t = absurd h
  finished_stands (Columns fault) h t = absurd h
  finished_stands (TooLarge name) h t = absurd h
  finished_stands (ReadFault name) h t = absurd h

  -- what the code says is what the deed says
  text_said : text_of run m' ≡ said_of (as_deed run (s' - s)) (outside old was s m) (outside new now s' m')
  text_said =
      let interp : m'.interp ≡ counted 0 (s' - s) = counts.interp ∙ ap (λ n. counted n (s' - s)) none in
      let typed : m'.typed ≡ m'.typed - m.typed = omega (arith, never) in
      λ i. run.line ++ (if run.stats then stats_line (interp i) (typed i) else [])

  said_partly : old.tells ≡ true → (k : ℕ) × (now.said ≡ was.said ++ take k (text_of run m')) → IsSaidPartly words (outside old was s m) (outside new now s' m')
  said_partly t h =
      with_deed (λ deed. (k : ℕ) × (now.said ≡ was.said ++ take k (said_of deed (outside old was s m) (outside new now s' m')))) t
      (h.0, h.1 ∙ ap (λ b. was.said ++ take h.0 b) text_said)

  finished_said : (o : Outcome) → LineLeft (text_of run m') was now o → Said words (outside old was s m) (outside new now s' m') o
  finished_said (Done rows reported) h = λ t.
      with_deed (λ deed. now.said ≡ was.said ++ said_of deed (outside old was s m) (outside new now s' m')) t
      (h ∙ ap (λ b. was.said ++ b) text_said)
  finished_said (WriteFault name) h = h
  finished_said ConsoleFault h = λ t. said_partly t h
  finished_said NoMemory h = (h.0, λ t. inr (said_partly t h.1))
  finished_said Words h = absurd h
  finished_said (Script fault) h = absurd h
  finished_said (Columns fault) h = absurd h
  finished_said (TooLarge name) h = absurd h
  finished_said (ReadFault name) h = absurd h

  all_taken : old.tells ≡ true → IsDeedWith words old.held (λ deed. s' ≡ s + deed.evaluations)
  all_taken t = with_deed (λ deed. s' ≡ s + deed.evaluations) t (rise_is s s' counts.rises)

  finished_steps : (o : Outcome) → FinishCause run mid new was now o → TakesSteps words (outside old was s m) (outside new now s' m') o
  finished_steps (Done rows reported) h = all_taken
  finished_steps (WriteFault name) h = all_taken
  finished_steps ConsoleFault h = all_taken
  finished_steps NoMemory h = λ t.
      inr (with_deed (λ deed. s' ≤ s + deed.evaluations) t (all_is_most s s' (s' - s) (rise_is s s' counts.rises)))
  finished_steps Words h = absurd h
  finished_steps (Script fault) h = absurd h
  finished_steps (Columns fault) h = absurd h
  finished_steps (TooLarge name) h = absurd h
  finished_steps (ReadFault name) h = absurd h

  pub finished_ended : (o : Outcome) → FinishCause run mid new was now o → IsSome (command_of words)
      → (mid.tells ≡ true → FilesLeft run.writes mid.held new.held o)
      → (was.tells ≡ true → LineLeft (text_of run m') was now o)
      → (mid.names_faults ≡ true → FailedAmong (Contains (names_of run.writes)) mid new)
      → Ended words (outside old was s m) (outside new now s' m') o
  finished_ended o h asked files line named =
      let c = finished_cause words old mid new was now run (s' - s) s s' m m' only still reads accepted o h in
      record {
        cause = c;
        words = λ e. absurd (not_none (command_of words) e asked);
        complete = complete_of words (outside old was s m) (outside new now s' m') o c;
        stands = λ t. finished_stands o
            (subst (λ (held : Held). FilesLeft run.writes held new.held o) (only.held t) (files (only.telling.tells ∙ t))) t;
        said = λ t. finished_said o (line t);
        named = λ t n. failed_at_write words old mid new was now run (s' - s) s s' m m' only still reads accepted t n (named (only.telling.names_faults ∙ n));
        telling = record {
          tells = telling.tells ∙ only.telling.tells;
          names_faults = telling.names_faults ∙ only.telling.names_faults;
        };
        steps = finished_steps o h;
        meter = counts;
      }

-- ---- and then the complaint

turned : (o r : Outcome) → Turns o r → (r ≡ o) ⊎ (r ≡ NoMemory)
turned (Done rows reported) r e = inl e
turned Words r e = inl e
turned (Script fault) r e = e
turned (Columns fault) r e = e
turned (TooLarge name) r e = e
turned (ReadFault name) r e = e
turned (WriteFault name) r e = e
turned ConsoleFault r e = inl e
turned NoMemory r e = inl e

-- what holds of an outcome holds of its turn, where it does so of want of memory in place of a refusal
turned_to : (P : Outcome → Type 0) (o r : Outcome) → Turns o r → P o
    → ((fault : ScriptFault) → P (Script fault) → P NoMemory)
    → ((fault : ColumnFault) → P (Columns fault) → P NoMemory)
    → ((name : List ℕ) → P (TooLarge name) → P NoMemory)
    → ((name : List ℕ) → P (ReadFault name) → P NoMemory)
    → ((name : List ℕ) → P (WriteFault name) → P NoMemory)
    → P r
turned_to P (Done rows reported) r e h f g i j k = subst P (sym e) h
turned_to P Words r e h f g i j k = subst P (sym e) h
turned_to P ConsoleFault r e h f g i j k = subst P (sym e) h
turned_to P NoMemory r e h f g i j k = subst P (sym e) h
turned_to P (Script fault) r (inl e) h f g i j k = subst P (sym e) h
turned_to P (Script fault) r (inr e) h f g i j k = subst P (sym e) (f fault h)
turned_to P (Columns fault) r (inl e) h f g i j k = subst P (sym e) h
turned_to P (Columns fault) r (inr e) h f g i j k = subst P (sym e) (g fault h)
turned_to P (TooLarge name) r (inl e) h f g i j k = subst P (sym e) h
turned_to P (TooLarge name) r (inr e) h f g i j k = subst P (sym e) (i name h)
turned_to P (ReadFault name) r (inl e) h f g i j k = subst P (sym e) h
turned_to P (ReadFault name) r (inr e) h f g i j k = subst P (sym e) (j name h)
turned_to P (WriteFault name) r (inl e) h f g i j k = subst P (sym e) h
turned_to P (WriteFault name) r (inr e) h f g i j k = subst P (sym e) (k name h)

turned_stands : (words : List (List ℕ)) (old new : Held) (o r : Outcome) → Turns o r → Stands words old new o → Stands words old new r
turned_stands words old new o r e h = turned_to (Stands words old new) o r e h (λ _ h. inl h) (λ _ h. inl h) (λ _ h. inl h) (λ _ h. inl h) (λ _ h. inr h)

most_of_all : (words : List (List ℕ)) (held : Held) (old new : ℕ) → IsDeedWith words held (λ deed. new ≡ old + deed.evaluations) → IsDeedWith words held (λ deed. new ≤ old + deed.evaluations)
most_of_all words held old new h = (h.0, h.1, all_is_most old new h.0.evaluations h.2)

turned_steps : (words : List (List ℕ)) (old new : Outside) (o r : Outcome) → Turns o r → TakesSteps words old new o → TakesSteps words old new r
turned_steps words old new o r e h =
    turned_to (TakesSteps words old new) o r e h (λ _ h t. inl h) (λ _ h t. inl h) (λ _ h t. inl h) (λ _ h t. inl h)
    (λ _ h t. inr (most_of_all words old.place.held old.steps new.steps (h t)))

module _ (words : List (List ℕ)) (old : Outside) (place : PlaceState) (mid now : ConsoleState) (s' : ℕ) (m' : Meter) (complains : OnlyComplains mid now) where
  still_no_more : HasNoMoreFaults old (outside place mid s' m') → HasNoMoreFaults old (outside place now s' m')
  still_no_more h = record {
    reads = h.reads;
    writes = h.writes;
    says = subst (λ n. n ≤ old.console.say_faults) (sym complains.say_faults) h.says;
    named = h.named;
  }

  cause_kept : (o : Outcome) → Cause words old (outside place mid s' m') o → Cause words old (outside place now s' m') o
  cause_kept (Done rows reported) h = (still_no_more h.0, h.1)
  cause_kept Words h = (still_no_more h.0, h.1)
  cause_kept (Script fault) h = (still_no_more h.0, h.1)
  cause_kept (Columns fault) h = (still_no_more h.0, h.1)
  cause_kept (TooLarge name) h = (still_no_more h.0, h.1)
  cause_kept (ReadFault name) h = (
    record {
      reads = h.0.reads;
      writes = h.0.writes;
      says = subst (λ n. n ≤ old.console.say_faults) (sym complains.say_faults) h.0.says;
      named = h.0.named;
    },
    h.1,
  )
  cause_kept (WriteFault name) h = (
    record {
      reads = h.0.reads;
      writes = h.0.writes;
      says = subst (λ n. n ≤ old.console.say_faults) (sym complains.say_faults) h.0.says;
      named = h.0.named;
    },
    h.1,
  )
  cause_kept ConsoleFault h = (
    record {
      reads = h.0.reads;
      writes = h.0.writes;
      says = subst (λ n. Rose old.console.say_faults n) (sym complains.say_faults) h.0.says;
      named = h.0.named;
    },
    h.1,
  )
  cause_kept NoMemory h = h

  closed_cause : (o r : Outcome) → Turns o r → Cause words old (outside place mid s' m') o → Cause words old (outside place now s' m') r
  closed_cause o r e h =
      turned_to (Cause words old (outside place now s' m')) o r e (cause_kept o h) (λ _ _. tt) (λ _ _. tt) (λ _ _. tt) (λ _ _. tt) (λ _ _. tt)

  -- a complaint says nothing
  module _ (same : now.said ≡ mid.said) (refusals : old.console.memory_refusals ≤ mid.memory_refusals) where
    partly_kept : IsSaidPartly words old (outside place mid s' m') → IsSaidPartly words old (outside place now s' m')
    partly_kept h = (h.0, h.1, (h.2.0, same ∙ h.2.1))

    none_or_partly : (mid.said ≡ old.console.said) ⊎ IsSaidPartly words old (outside place mid s' m')
        → (now.said ≡ old.console.said) ⊎ IsSaidPartly words old (outside place now s' m')
    none_or_partly (inl e) = inl (same ∙ e)
    none_or_partly (inr h) = inr (partly_kept h)

    still_before : Still old.console.memory_refusals now.memory_refusals → Still old.console.memory_refusals mid.memory_refusals
    still_before k = (k.0, omega (arith, k.1, refusals, complains.memory_refusals))

    said_kept : (o : Outcome) → Said words old (outside place mid s' m') o → Said words old (outside place now s' m') o
    said_kept (Done rows reported) h = λ t. let d = h t in (d.0, d.1, same ∙ d.2)
    said_kept Words h = same ∙ h
    said_kept (Script fault) h = same ∙ h
    said_kept (Columns fault) h = same ∙ h
    said_kept (TooLarge name) h = same ∙ h
    said_kept (ReadFault name) h = same ∙ h
    said_kept (WriteFault name) h = same ∙ h
    said_kept ConsoleFault h = λ t. partly_kept (h t)
    said_kept NoMemory h = (λ k. same ∙ h.0 (still_before k), λ t. none_or_partly (h.1 t))

    closed_said : (o r : Outcome) → Turns o r → Said words old (outside place mid s' m') o → Said words old (outside place now s' m') r
    closed_said o r e h =
        turned_to (Said words old (outside place now s' m')) o r e (said_kept o h)
        (λ _ h. (λ _. h, λ _. inl h)) (λ _ h. (λ _. h, λ _. inl h)) (λ _ h. (λ _. h, λ _. inl h)) (λ _ h. (λ _. h, λ _. inl h)) (λ _ h. (λ _. h, λ _. inl h))

pub closed_ended : (words : List (List ℕ)) (old : Outside) (place : PlaceState) (mid now : ConsoleState) (s' : ℕ) (m' : Meter)
    → OnlySays old.console mid → OnlyComplains mid now → (o r : Outcome) → Turns o r
    → Ended words old (outside place mid s' m') o → Ended words old (outside place now s' m') r
closed_ended words old place mid now s' m' says complains o r e h =
    let c = closed_cause words old place mid now s' m' complains o r e h.cause in
    record {
      cause = c;
      words = λ n. elim (turned o r e) [
        | inl same ↦ subst (λ x. (x ≡ Words) ⊎ (x ≡ NoMemory)) (sym same) (h.words n)
        | inr memory ↦ inr memory
      ];
      complete = complete_of words old (outside place now s' m') r c;
      stands = λ t. turned_stands words old.place.held place.held o r e (h.stands t);
      said = λ t. closed_said words old place mid now s' m' complains (complains.said (says.tells ∙ t)) says.memory_refusals o r e (h.said t);
      named = h.named;
      telling = h.telling;
      steps = turned_steps words old (outside place now s' m') o r e h.steps;
      meter = h.meter;
    }

-- ---- the headline

pub headline_of : OneVerdictLaw → (words : List (List ℕ)) (old new : Outside) (o : Outcome) → Ended words old new o
    → (old.console.tells ≡ true → Complained (complaint o) old.console new.console) → RunsPlainly words old new o
headline_of one words old new o h complained = λ deed t v f n.
    let found = h.complete t f n in
    let done : o ≡ Done deed.rows deed.reported = found.2 ∙ ap outcome_of (one words old.place.held found.0 (inr deed) found.1 v) in
    let stands : Stands words old.place.held new.place.held (Done deed.rows deed.reported) =
    subst (λ x. Stands words old.place.held new.place.held x) done (h.stands t) in
    let it : (other : Deed) → IsVerdict words old.place.held (inr other) → other ≡ deed =
    λ other w. given_same other deed (one words old.place.held (inr other) (inr deed) w v) in
    record {
      done = done;
      status = ap status_of done;
      files = stands.2 ∙ ap (λ d. written d.writes old.place.held) (it stands.0 stands.1);
      said = λ c.
          let said : Said words old new (Done deed.rows deed.reported) = subst (λ x. Said words old new x) done (h.said c) in
          let what = said t in
          what.2 ∙ ap (λ d. old.console.said ++ said_of d old new) (it what.0 what.1);
      complained = λ c.
          let none : Complained [] old.console new.console = subst (λ x. Complained (complaint x) old.console new.console) done (complained c) in
          none.partly.1 ∙ (ap (λ b. old.console.complained ++ b) (take-nil none.partly.0) ∙ append-nil old.console.complained);
    }

-- ---- refusals as answers

pub err_same : {T E : Type 0} (a b : E) → ◌≡◌ {A = Result T E} (Err a) (Err b) → a ≡ b
err_same a b p = cc
