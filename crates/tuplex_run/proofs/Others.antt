-- What a check and a generated table are, from what holds of every command.
use Rattle.std.proofs.Common.{◌≡◌, ◌∙◌, ◌++◌, ℕ, List, [], ◌∷◌, Some, true, length, sym, ap, subst, refl, inl, inr, append-nil}
use Rattle.std.proofs.Math.Seq.{take-length}
use Rattle.tx_place.specs.Place.{Held, with_file}
use Rattle.tx_words.specs.Words.{command_of}
use Rattle.tx_words.specs.declared.command.Command.TheVariants.{Check, Generate}
use Rattle.tx_generate.specs.Generated as table
use Rattle.tuplex_run.specs.Partly.{IsPartly}
use Rattle.tuplex_run.specs.Deed.{Deed, written, IsWrittenPartly}
use Rattle.tuplex_run.specs.Inputs.{Ready}
use Rattle.tuplex_run.specs.Commands.{check_deed, generate_deed, rows_line}
use Rattle.tuplex_run.specs.Outside.{Outside}
use Rattle.tuplex_run.specs.Due.{on_script, IsVerdict, outcome_of}
use Rattle.tuplex_run.specs.Laws.{OneVerdictLaw}
use Rattle.tuplex_run.specs.Ends.{said_of, Cause, Stands, Said, IfDone, IsChecked, Checks, IsGenerated, Generates, OtherCommands, Ended}
use Rattle.tuplex_run.specs.declared.outcome.Outcome.{Outcome}
use Rattle.tuplex_run.specs.declared.outcome.Outcome.TheVariants.{Done, Words, Script, Columns, TooLarge, ReadFault, WriteFault, ConsoleFault, NoMemory}
use Rattle.tuplex_run.proofs.VerdictLemmas.{given_same, no_refusal, of_command}

same_rows : (a b c d : ℕ) → Done a b ≡ Done c d → a ≡ c
same_rows a b c d p = cc

same_reported : (a b c d : ℕ) → Done a b ≡ Done c d → b ≡ d
same_reported a b c d p = cc

-- ---- the deeds

module _ (words : List (List ℕ)) (held : Held) (script : List ℕ) (e : command_of words ≡ Some (Check script)) where
  check_due : (deed : Deed) → IsVerdict words held (inr deed) → (deed ≡ check_deed) × ((accepted : Ready) × on_script script held (inr accepted))
  check_due deed v = elim (of_command words held (Check script) e (inr deed) v) [
    | inl h ↦ absurd (no_refusal h.0 deed (sym h.2))
    | inr h ↦ (given_same deed check_deed h.2, (h.0, h.1))
  ]

generate_due : (words : List (List ℕ)) (held : Held) (seed count : ℕ) (file : List ℕ) → command_of words ≡ Some (Generate seed count file)
    → (deed : Deed) → IsVerdict words held (inr deed) → deed ≡ generate_deed seed count file
generate_due words held seed count file e deed v = given_same deed (generate_deed seed count file) (of_command words held (Generate seed count file) e (inr deed) v)

-- the numbers of an outcome that is due are those of the deed
module _ (one : OneVerdictLaw) (words : List (List ℕ)) (old new : Outside) (o : Outcome) (ended : Ended words old new o) (t : old.place.tells ≡ true) where
  module _ (rows reported : ℕ) (done : o ≡ Done rows reported) where
    stands : Stands words old.place.held new.place.held (Done rows reported)
    stands = subst (λ x. Stands words old.place.held new.place.held x) done (ended.stands t)

    due : Done rows reported ≡ Done stands.0.rows stands.0.reported
    due =
        let found = (subst (λ x. Cause words old new x) done ended.cause).1 t in
        found.2 ∙ ap outcome_of (one words old.place.held found.0 (inr stands.0) found.1 stands.1)

  -- ---- a check

  module _ (script : List ℕ) (e : command_of words ≡ Some (Check script)) where
    none_written : (deed : Deed) → IsVerdict words old.place.held (inr deed) → IsWrittenPartly deed.writes old.place.held new.place.held → new.place.held ≡ old.place.held
    none_written deed v h =
        subst (λ (d : Deed). IsWrittenPartly d.writes old.place.held new.place.held) (check_due words old.place.held script e deed v).0 h

    all_written : (deed : Deed) → IsVerdict words old.place.held (inr deed) → new.place.held ≡ written deed.writes old.place.held → new.place.held ≡ old.place.held
    all_written deed v h = h ∙ ap (λ (d : Deed). written d.writes old.place.held) (check_due words old.place.held script e deed v).0

    unchanged : (x : Outcome) → Stands words old.place.held new.place.held x → new.place.held ≡ old.place.held
    unchanged (Done rows reported) h = all_written h.0 h.1 h.2
    unchanged Words h = h
    unchanged (Script fault) h = h
    unchanged (Columns fault) h = h
    unchanged (TooLarge name) h = h
    unchanged (ReadFault name) h = h
    unchanged (WriteFault name) h = none_written h.0 h.1 h.2
    unchanged ConsoleFault h = all_written h.0 h.1 h.2
    unchanged NoMemory (inl h) = h
    unchanged NoMemory (inr h) = none_written h.0 h.1 h.2

    is_checked : (rows reported : ℕ) → o ≡ Done rows reported → IsChecked script old new rows reported
    is_checked rows reported done =
        let it = stands rows reported done in
        let is = check_due words old.place.held script e it.0 it.1 in
        record {
          no_rows = same_rows rows reported it.0.rows it.0.reported (due rows reported done) ∙ ap (λ (d : Deed). d.rows) is.0;
          none_reported = same_reported rows reported it.0.rows it.0.reported (due rows reported done) ∙ ap (λ (d : Deed). d.reported) is.0;
          accepted = is.1;
          said = λ c.
              let said = (subst (λ x. Said words old new x) done (ended.said c)) t in
              said.2 ∙ (ap (λ d. old.console.said ++ said_of d old new) (check_due words old.place.held script e said.0 said.1).0
              ∙ ap (λ b. old.console.said ++ b) (append-nil check_deed.line));
        }

    if_checked : (x : Outcome) → o ≡ x → IfDone x (IsChecked script old new)
    if_checked (Done rows reported) p = is_checked rows reported p
    if_checked Words p = tt
    if_checked (Script fault) p = tt
    if_checked (Columns fault) p = tt
    if_checked (TooLarge name) p = tt
    if_checked (ReadFault name) p = tt
    if_checked (WriteFault name) p = tt
    if_checked ConsoleFault p = tt
    if_checked NoMemory p = tt

    check_is : Checks script old new o
    check_is = record { files = unchanged o (ended.stands t); done = if_checked o refl }

  -- ---- a table

  module _ (seed count : ℕ) (file : List ℕ) (e : command_of words ≡ Some (Generate seed count file)) where
    abbrev bytes : List ℕ
    bytes = table.rows seed count

    whole_table : (deed : Deed) → IsVerdict words old.place.held (inr deed) → new.place.held ≡ written deed.writes old.place.held → new.place.held ≡ with_file old.place.held file bytes
    whole_table deed v h = h ∙ ap (λ (d : Deed). written d.writes old.place.held) (generate_due words old.place.held seed count file e deed v)

    whole_part : new.place.held ≡ with_file old.place.held file bytes → IsPartly old.place.held file bytes new.place.held
    whole_part h = inr (length bytes, h ∙ ap (with_file old.place.held file) (sym (take-length bytes)))

    part_of_two : IsWrittenPartly ((file, bytes) ∷ []) old.place.held new.place.held → IsPartly old.place.held file bytes new.place.held
    part_of_two (inl h) = h
    part_of_two (inr h) = whole_part h

    part_table : (deed : Deed) → IsVerdict words old.place.held (inr deed) → IsWrittenPartly deed.writes old.place.held new.place.held → IsPartly old.place.held file bytes new.place.held
    part_table deed v h =
        part_of_two (subst (λ (d : Deed). IsWrittenPartly d.writes old.place.held new.place.held) (generate_due words old.place.held seed count file e deed v) h)

    in_part : (x : Outcome) → Stands words old.place.held new.place.held x → IsPartly old.place.held file bytes new.place.held
    in_part (Done rows reported) h = whole_part (whole_table h.0 h.1 h.2)
    in_part Words h = inl h
    in_part (Script fault) h = inl h
    in_part (Columns fault) h = inl h
    in_part (TooLarge name) h = inl h
    in_part (ReadFault name) h = inl h
    in_part (WriteFault name) h = part_table h.0 h.1 h.2
    in_part ConsoleFault h = whole_part (whole_table h.0 h.1 h.2)
    in_part NoMemory (inl h) = inl h
    in_part NoMemory (inr h) = part_table h.0 h.1 h.2

    is_generated : (rows reported : ℕ) → o ≡ Done rows reported → IsGenerated seed count file old new rows reported
    is_generated rows reported done =
        let it = stands rows reported done in
        let is = generate_due words old.place.held seed count file e it.0 it.1 in
        record {
          all_rows = same_rows rows reported it.0.rows it.0.reported (due rows reported done) ∙ ap (λ (d : Deed). d.rows) is;
          none_reported = same_reported rows reported it.0.rows it.0.reported (due rows reported done) ∙ ap (λ (d : Deed). d.reported) is;
          files = whole_table it.0 it.1 it.2;
          said = λ c.
              let said = (subst (λ x. Said words old new x) done (ended.said c)) t in
              said.2 ∙ (ap (λ d. old.console.said ++ said_of d old new) (generate_due words old.place.held seed count file e said.0 said.1)
              ∙ ap (λ b. old.console.said ++ b) (append-nil (rows_line count)));
        }

    if_generated : (x : Outcome) → o ≡ x → IfDone x (IsGenerated seed count file old new)
    if_generated (Done rows reported) p = is_generated rows reported p
    if_generated Words p = tt
    if_generated (Script fault) p = tt
    if_generated (Columns fault) p = tt
    if_generated (TooLarge name) p = tt
    if_generated (ReadFault name) p = tt
    if_generated (WriteFault name) p = tt
    if_generated ConsoleFault p = tt
    if_generated NoMemory p = tt

    generate_is : Generates seed count file old new o
    generate_is = record { files = in_part o (ended.stands t); done = if_generated o refl }

  pub others_are : OtherCommands words old new o
  others_are = record { check = check_is; generate = generate_is }
