-- The answers of a script, by the checks of its text, of its blocks, of its forms, and of its links.
use Rattle.std.proofs.Common.{◌≡◌, ℕ, List, [], ◌∷◌, ◌++◌, Option, Some, None, option_map, Ok, Err, refl, sym, ap, ◌∙◌, subst, inl, inr}
use Rattle.std.specs.Prelude.{slice_get, Result, IfOk, OnOk}
use Rattle.std.specs.Str.{chars}
use Rattle.tx_tokens.specs.Tokens.{tokens_of}
use Rattle.tx_tree.specs.Tree.{BlockTree}
use Rattle.tx_parse.specs.Spans.{blocks_of}
use Rattle.tx_names.specs.Scope.{Text}
use Rattle.tx_names.specs.Faults.{first_some}
use Rattle.tx_pipe.specs.Lawful.{most_operators, Lawful}
use Rattle.tx_script.specs.declared.fault.ScriptFault.{ScriptFault}
use Rattle.tx_script.specs.declared.fault.ScriptKind.TheVariants as kind
use Rattle.tx_script.specs.Written.{Entry}
use Rattle.tx_script.specs.Linked.{at, Pipe, linked_script}
use Rattle.tx_script.specs.Checks.{first_of, too_long, not_text, token_fault, text_fault, tokens_unless, blocks_in, places_in, operator_fault, too_many_operators, too_many_defs, name_fault, handler_place, pipe_use, no_end, output_is_input, entries, refusal}
use Rattle.tx_script.specs.Accepted.{AreRead, Accepted, Refused}
use Rattle.tx_script.specs.Laws.{LawfulLaw}
use Rattle.tx_script.specs.Calls.Formed.{entries_behind}
use Rattle.tx_script.specs.Calls.Reading.{IsFaultOfBlock, IsFaultOfText, too_many_links, link_fault}
use Rattle.tx_script.proofs.ReadForms.{all_formed, formed_entries, form_fault, links_at_places, lines_at_places}

-- ---- one check after another

first_assoc : (a b c : Option ScriptFault) → first_some (first_some a b) c ≡ first_some a (first_some b c)
first_assoc None b c = refl
first_assoc (Some x) b c = refl

first_append : (os ps : List (Option ScriptFault)) → first_of (os ++ ps) ≡ first_some (first_of os) (first_of ps)
first_append [] ps = refl
first_append (o ∷ os) ps = ap (λ r. first_some o r) (first_append os ps) ∙ sym (first_assoc o (first_of os) (first_of ps))

first_none : (o p : Option ScriptFault) → o ≡ None → first_some o p ≡ p
first_none o p h = ap (λ q. first_some q p) h

first_is : (o p : Option ScriptFault) (f : ScriptFault) → o ≡ Some f → first_some o p ≡ Some f
first_is o p f h = ap (λ q. first_some q p) h

-- ---- the checks of a text, and then the others

abbrev checks_behind : Text → List BlockTree → List Entry → Option ScriptFault → Option ScriptFault → Option ScriptFault → List (Option ScriptFault)
checks_behind own bs es unread form number =
    unread ∷ form ∷ number ∷ too_many_defs bs ∷ name_fault es ∷ handler_place es ∷ pipe_use es ∷ no_end es ∷ output_is_input own es ∷ []

refusal_is : (own : Text) (bytes : List ℕ) (bs : List BlockTree) (unread : Option ScriptFault)
    → refusal own bytes bs unread ≡ first_some (text_fault bytes) (first_of (checks_behind own bs (entries bs) unread (operator_fault bs) (too_many_operators bs)))
refusal_is own bytes bs unread = first_append (too_long bytes ∷ not_text bytes ∷ token_fault bytes ∷ []) (checks_behind own bs (entries bs) unread (operator_fault bs) (too_many_operators bs))

behind_text : (own : Text) (bytes : List ℕ) (bs : List BlockTree) (unread : Option ScriptFault) → text_fault bytes ≡ None
    → refusal own bytes bs unread ≡ first_of (checks_behind own bs (entries bs) unread (operator_fault bs) (too_many_operators bs))
behind_text own bytes bs unread h = refusal_is own bytes bs unread ∙ first_none (text_fault bytes) (first_of (checks_behind own bs (entries bs) unread (operator_fault bs) (too_many_operators bs))) h

-- ---- a text, or a block of it, is in fault

none_read : (bytes : List ℕ) (o : Option ScriptFault) (f : ScriptFault) → o ≡ Some f → AreRead (blocks_of (tokens_unless o (tokens_of (chars bytes)))) [] None
none_read bytes o f h = subst (λ p. AreRead (blocks_of (tokens_unless p (tokens_of (chars bytes)))) [] None) (sym h) tt

refused_text : (own : Text) (bytes : List ℕ) (f : ScriptFault) → text_fault bytes ≡ Some f → Refused own bytes f
refused_text own bytes f h = record {
  blocks = [];
  unread = None;
  read = none_read bytes (text_fault bytes) f h;
  fails = refusal_is own bytes [] None ∙ first_is (text_fault bytes) (first_of (checks_behind own [] (entries []) None (operator_fault []) (too_many_operators []))) f h;
}

refused_block : (own : Text) (bytes : List ℕ) (f : ScriptFault) → IsFaultOfBlock bytes f → Refused own bytes f
refused_block own bytes f h = record {
  blocks = h.blocks;
  unread = Some f;
  read = h.read;
  fails = behind_text own bytes h.blocks (Some f) h.none;
}

pub refused_blocks : (own : Text) (bytes : List ℕ) (f : ScriptFault) → IsFaultOfText bytes f → Refused own bytes f
refused_blocks own bytes f h = elim h [ inl e ↦ refused_text own bytes f e | inr e ↦ refused_block own bytes f e ]

-- ---- a word has no form

pub refused_form : (own : Text) (bytes : List ℕ) (bs : List BlockTree) (f : ScriptFault) → text_fault bytes ≡ None → AreRead (blocks_in bytes) bs None → entries_behind [] bs ≡ Err f → Refused own bytes f
refused_form own bytes bs f none read h = record {
  blocks = bs;
  unread = None;
  read = read;
  fails = behind_text own bytes bs None none ∙ first_is (operator_fault bs) (first_of (too_many_operators bs ∷ too_many_defs bs ∷ name_fault (entries bs) ∷ handler_place (entries bs) ∷ pipe_use (entries bs) ∷ no_end (entries bs) ∷ output_is_input own (entries bs) ∷ [])) f (form_fault bs f h);
}

-- ---- each word has a form

no_form_fault : (bs : List BlockTree) (es : List Entry) → entries_behind [] bs ≡ Ok es → operator_fault bs ≡ None
no_form_fault bs es h = ap (λ o. option_map (λ p. at kind.Operator p.0) o) (all_formed bs es h)

same_number : (bs : List BlockTree) (es : List Entry) → entries_behind [] bs ≡ Ok es → too_many_operators bs ≡ too_many_links (entries bs)
same_number bs es h =
    lines_at_places kind.TooManyOperators (places_in bs) most_operators (all_formed bs es h)
    ∙ ap (λ l. option_map (λ x. at kind.TooManyOperators x.line) (slice_get l most_operators)) (sym (links_at_places bs))

link_fault_is : (own : Text) (bs : List BlockTree) (es : List Entry) → link_fault own bs es ≡ first_of (checks_behind own bs es None None (too_many_links es))
link_fault_is own bs es =
    sym (first_append (too_many_links es ∷ too_many_defs bs ∷ []) (name_fault es ∷ handler_place es ∷ pipe_use es ∷ no_end es ∷ output_is_input own es ∷ []))

behind_forms : (own : Text) (bytes : List ℕ) (bs : List BlockTree) (es : List Entry) → text_fault bytes ≡ None → entries_behind [] bs ≡ Ok es
    → refusal own bytes bs None ≡ link_fault own bs es
behind_forms own bytes bs es none h =
    behind_text own bytes bs None none
    ∙ ap (λ o. first_of (checks_behind own bs (entries bs) None o (too_many_operators bs))) (no_form_fault bs es h)
    ∙ ap (λ o. first_of (checks_behind own bs (entries bs) None None o)) (same_number bs es h)
    ∙ sym (link_fault_is own bs (entries bs))
    ∙ ap (λ l. link_fault own bs l) (sym (formed_entries bs es h))

pub refused_links : (own : Text) (bytes : List ℕ) (bs : List BlockTree) (es : List Entry) (f : ScriptFault) → text_fault bytes ≡ None → AreRead (blocks_in bytes) bs None → entries_behind [] bs ≡ Ok es
    → link_fault own bs es ≡ Some f → Refused own bytes f
refused_links own bytes bs es f none read h fails = record {
  blocks = bs;
  unread = None;
  read = read;
  fails = behind_forms own bytes bs es none h ∙ fails;
}

pub accepted_links : (own : Text) (bytes : List ℕ) (bs : List BlockTree) (es : List Entry) (pipe : Pipe) → text_fault bytes ≡ None → AreRead (blocks_in bytes) bs None → entries_behind [] bs ≡ Ok es
    → link_fault own bs es ≡ None → linked_script es ≡ Ok pipe → Accepted own bytes pipe
accepted_links own bytes bs es pipe none read h passes linked = record {
  blocks = bs;
  read = read;
  passes = behind_forms own bytes bs es none h ∙ passes;
  linked = ap linked_script (sym (formed_entries bs es h)) ∙ linked;
}

-- ---- what an answer of the code's says

pub accepted_answer : {A E : Type 0} (view : A → Pipe) (r : Result A E) (own : Text) (bytes : List ℕ) (bs : List BlockTree) (es : List Entry)
    → text_fault bytes ≡ None → AreRead (blocks_in bytes) bs None → entries_behind [] bs ≡ Ok es
    → OnOk r (link_fault own bs es ≡ None) → IfOk r (λ p. linked_script es ≡ Ok (view p)) → IfOk r (λ p. Accepted own bytes (view p))
accepted_answer view (Ok p) own bytes bs es none read h passes linked = accepted_links own bytes bs es (view p) none read h passes linked
accepted_answer view (Err e) own bytes bs es none read h passes linked = tt

pub lawful_answer : {A E : Type 0} (view : A → Pipe) (r : Result A E) (own : Text) (bytes : List ℕ) → LawfulLaw → IfOk r (λ p. Accepted own bytes (view p)) → IfOk r (λ p. Lawful (view p))
lawful_answer view (Ok p) own bytes law h = law own bytes (view p) h
lawful_answer view (Err e) own bytes law h = tt
