-- When each outcome of an accepted command comes, from its parts.
use Rattle.std.proofs.Common.{◌≡◌, ◌≤◌, ◌∙◌, ℕ, List, true, subst, inr, arith, Contains}
use Rattle.tx_base.specs.declared.meter.Meter.{Meter}
use Rattle.tx_place.specs.Count.{Rose}
use Rattle.tx_place.specs.Place.{PlaceState}
use Rattle.tx_place.specs.Console.{ConsoleState}
use Rattle.tuplex_run.specs.Deed.{names_of}
use Rattle.tuplex_run.specs.Outside.{outside}
use Rattle.tuplex_run.specs.Due.{IsVerdict, IsTouchedBy}
use Rattle.tuplex_run.specs.Ends.{Cause, FailedAmong}
use Rattle.tuplex_run.specs.Calls.Accept.{as_deed}
use Rattle.tuplex_run.specs.Calls.Refusals.{OnlyRead, NoReadFailed}
use Rattle.tuplex_run.specs.Calls.Finish.{FinishCause}
use Rattle.tuplex_run.specs.declared.accept.Accepted.{Accepted}
use Rattle.tuplex_run.specs.declared.outcome.Outcome.{Outcome}
use Rattle.tuplex_run.specs.declared.outcome.Outcome.TheVariants.{Done, Words, Script, Columns, TooLarge, ReadFault, WriteFault, ConsoleFault, NoMemory}
use Rattle.tuplex_run.proofs.Failures.{among_more, among_later}

at_most : (a b : ℕ) → a ≡ b → a ≤ b
at_most a b e = omega (arith, e)

-- it was accepted, and then wrote and said
module _ (words : List (List ℕ)) (old mid new : PlaceState) (was now : ConsoleState) (run : Accepted) (evaluations s s' : ℕ) (m m' : Meter)
    (only : OnlyRead old mid) (still : NoReadFailed old mid) (reads : new.read_faults ≡ mid.read_faults)
    (accepted : old.tells ≡ true → IsVerdict words old.held (inr (as_deed run evaluations))) where
  no_read : new.read_faults ≤ old.read_faults
  no_read = at_most new.read_faults old.read_faults (reads ∙ still.reads)

  no_write : new.write_faults ≡ mid.write_faults → new.write_faults ≤ old.write_faults
  no_write e = at_most new.write_faults old.write_faults (e ∙ only.writes)

  as_it_was : (mid.names_faults ≡ true → new.failed ≡ mid.failed) → old.names_faults ≡ true → new.failed ≡ old.failed
  as_it_was named t = named (only.telling.names_faults ∙ t) ∙ still.named t

  pub finished_cause : (o : Outcome) → FinishCause run mid new was now o → Cause words (outside old was s m) (outside new now s' m') o
  finished_cause (Done rows reported) h = (
    record {
      reads = no_read;
      writes = no_write h.2.writes;
      says = at_most now.say_faults was.say_faults h.3;
      named = as_it_was h.2.named;
    },
    λ t. (inr (as_deed run evaluations), accepted t, λ i. Done (h.0 i) (h.1 i)),
  )
  finished_cause (WriteFault name) h = (
    record {
      reads = no_read;
      writes = subst (λ n. Rose n new.write_faults) only.writes h.0.1;
      says = at_most now.say_faults was.say_faults h.1;
      named = λ t. h.0.2 (only.telling.names_faults ∙ t);
    },
    λ t. (as_deed run evaluations, accepted t, h.0.0),
  )
  finished_cause ConsoleFault h = (
    record {
      reads = no_read;
      writes = no_write h.0.writes;
      says = h.1;
      named = as_it_was h.0.named;
    },
    λ t. (as_deed run evaluations, accepted t, tt),
  )
  finished_cause NoMemory h = h
  finished_cause Words h = absurd h
  finished_cause (Script fault) h = absurd h
  finished_cause (Columns fault) h = absurd h
  finished_cause (TooLarge name) h = absurd h
  finished_cause (ReadFault name) h = absurd h

  pub failed_at_write : old.tells ≡ true → old.names_faults ≡ true → FailedAmong (Contains (names_of run.writes)) mid new → FailedAmong (IsTouchedBy words old.held) old new
  failed_at_write t n h =
      among_more (Contains (names_of run.writes)) (IsTouchedBy words old.held) old new (λ name c. inr (as_deed run evaluations, accepted t, c))
      (among_later (Contains (names_of run.writes)) old mid new (still.named n) h)
