-- Files that were written one after the other, and why one was not.
use Rattle.std.proofs.Common.{◌≡◌, ◌≤◌, ◌-◌, ℕ, List, [], ◌∷◌, length, take, drop, length-drop, ◌∙◌, sym, subst, refl, inl, inr, arith, append-nil, Contains}
use Rattle.std.proofs.lemmas.List.{take_all}
use Rattle.tx_place.specs.Count.{Rose}
use Rattle.tx_place.specs.Place.{PlaceState, Held, KeepsTelling, with_file}
use Rattle.tx_place.specs.Console.{ConsoleState}
use Rattle.tuplex_run.proofs.Failures.{among_more, among_later, later}
use Rattle.tuplex_run.specs.Ends.{FailedAmong}
use Rattle.tuplex_run.specs.Deed.{names_of, written, IsWrittenPartly}
use Rattle.tuplex_run.specs.Calls.Finish.{WriteRefusal, FilesLeft, LineLeft}
use Rattle.tuplex_run.specs.declared.outcome.Outcome.{Outcome}
use Rattle.tuplex_run.specs.declared.outcome.Outcome.TheVariants.{Done, Words, Script, Columns, TooLarge, ReadFault, WriteFault, ConsoleFault, NoMemory}

-- what is whole is written in part
pub whole_is_part : (writes : List (List ℕ × List ℕ)) (old new : Held) → new ≡ written writes old → IsWrittenPartly writes old new
whole_is_part [] old new e = e
whole_is_part (write ∷ writes) old new e = inr (whole_is_part writes (with_file old write.0 write.1) new e)

-- nothing was written
pub none_is_part : (writes : List (List ℕ × List ℕ)) (held : Held) → IsWrittenPartly writes held held
none_is_part [] held = refl
none_is_part (write ∷ writes) held = inl (inl refl)

refused_behind : (writes : List (List ℕ × List ℕ)) (old mid new : PlaceState) → 1 ≤ length writes → KeepsTelling old mid → mid.write_faults ≡ old.write_faults → (o : Outcome) → WriteRefusal (names_of (drop 1 writes)) mid new o → WriteRefusal (names_of writes) old new o
refused_behind [] old mid new le k same o h = absurd (omega arith)
refused_behind (write ∷ writes) old mid new le k same (WriteFault name) h = (
  later write.0 (names_of writes) name h.0,
  subst (λ n. Rose n new.write_faults) same h.1,
  λ t. h.2 (k.names_faults ∙ t),
)
refused_behind (write ∷ writes) old mid new le k same NoMemory h = h
refused_behind (write ∷ writes) old mid new le k same (Done rows reported) h = absurd h
refused_behind (write ∷ writes) old mid new le k same Words h = absurd h
refused_behind (write ∷ writes) old mid new le k same (Script fault) h = absurd h
refused_behind (write ∷ writes) old mid new le k same (Columns fault) h = absurd h
refused_behind (write ∷ writes) old mid new le k same (TooLarge name) h = absurd h
refused_behind (write ∷ writes) old mid new le k same (ReadFault name) h = absurd h
refused_behind (write ∷ writes) old mid new le k same ConsoleFault h = absurd h

rest_is : (writes : List (List ℕ × List ℕ)) → take (length writes - 1) (drop 1 writes) ≡ drop 1 writes
rest_is writes = take_all _ _ (omega (arith, length-drop 1 writes))

-- a refusal behind the first file
pub refused_later : (writes : List (List ℕ × List ℕ)) (old mid new : PlaceState) → 1 ≤ length writes → KeepsTelling old mid → mid.write_faults ≡ old.write_faults → (o : Outcome) → WriteRefusal (names_of (take (length writes - 1) (drop 1 writes))) mid new o → WriteRefusal (names_of writes) old new o
refused_later writes old mid new le k same o h =
    refused_behind writes old mid new le k same o (subst (λ ws. WriteRefusal (names_of ws) mid new o) (rest_is writes) h)

-- ---- the name of the last call that failed

failed_rest : (writes : List (List ℕ × List ℕ)) (old mid new : PlaceState) → 1 ≤ length writes → mid.failed ≡ old.failed
    → FailedAmong (Contains (names_of (drop 1 writes))) mid new → FailedAmong (Contains (names_of writes)) old new
failed_rest [] old mid new le same h = absurd (omega arith)
failed_rest (write ∷ writes) old mid new le same h =
    among_more (Contains (names_of writes)) (Contains (names_of (write ∷ writes))) old new (later write.0 (names_of writes)) (among_later (Contains (names_of writes)) old mid new same h)

pub failed_later : (writes : List (List ℕ × List ℕ)) (old mid new : PlaceState) → 1 ≤ length writes → mid.failed ≡ old.failed
    → FailedAmong (Contains (names_of (take (length writes - 1) (drop 1 writes)))) mid new → FailedAmong (Contains (names_of writes)) old new
failed_later writes old mid new le same h =
    failed_rest writes old mid new le same (subst (λ ws. FailedAmong (Contains (names_of ws)) mid new) (rest_is writes) h)

-- ---- an accepted run whose files were not all written

pub left_partly : (names : List (List ℕ)) (old new : PlaceState) (writes : List (List ℕ × List ℕ)) (before after : Held) (o : Outcome) → WriteRefusal names old new o
    → IsWrittenPartly writes before after → FilesLeft writes before after o
left_partly names old new writes before after (WriteFault name) h p = p
left_partly names old new writes before after NoMemory h p = p
left_partly names old new writes before after (Done rows reported) h p = absurd h
left_partly names old new writes before after Words h p = absurd h
left_partly names old new writes before after (Script fault) h p = absurd h
left_partly names old new writes before after (Columns fault) h p = absurd h
left_partly names old new writes before after (TooLarge name) h p = absurd h
left_partly names old new writes before after (ReadFault name) h p = absurd h
left_partly names old new writes before after ConsoleFault h p = absurd h

-- says nothing
pub nothing_left : (names : List (List ℕ)) (old new : PlaceState) (line : List ℕ) (was : ConsoleState) (o : Outcome) → WriteRefusal names old new o → LineLeft line was was o
nothing_left names old new line was (WriteFault name) h = refl
nothing_left names old new line was NoMemory h = (λ k. refl, (0, sym (append-nil was.said)))
nothing_left names old new line was (Done rows reported) h = absurd h
nothing_left names old new line was Words h = absurd h
nothing_left names old new line was (Script fault) h = absurd h
nothing_left names old new line was (Columns fault) h = absurd h
nothing_left names old new line was (TooLarge name) h = absurd h
nothing_left names old new line was (ReadFault name) h = absurd h
nothing_left names old new line was ConsoleFault h = absurd h
