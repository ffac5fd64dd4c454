-- Blocks are read in one way.
use Rattle.std.proofs.Common.{◌≡◌, ℕ, Bool, true, false, List, [], ◌∷◌, Option, Some, None, refl, sym, ap, ◌∙◌}
use Rattle.tx_tree.specs.Tree.{BlockTree}
use Rattle.tx_parse.specs.Lexemes.{Lexeme, lexemes, line_at}
use Rattle.tx_parse.specs.Block.{IsBlock}
use Rattle.tx_parse.specs.Faults.{Place, first_outside, stands_deep}
use Rattle.tx_parse.specs.Laws.{OneBlockLaw, InProfileLaw}
use Rattle.tx_script.specs.declared.fault.ScriptFault.{ScriptFault}
use Rattle.tx_script.specs.declared.fault.ScriptKind.{ScriptKind}
use Rattle.tx_script.specs.declared.fault.ScriptKind.TheVariants as kind
use Rattle.tx_script.specs.Linked.{at}
use Rattle.tx_script.specs.Accepted.{IsUnread}
use Rattle.tx_script.specs.Laws.{OneReadingLaw}

-- the fault of lexemes that are no block: by their first word outside the language, and whether one stands deep
abbrev fault_by : Option Place → Bool → ℕ → ScriptFault
fault_by (Some p) deep line = at kind.Outside p.0
fault_by None true line = at kind.TooDeep line
fault_by None false line = at kind.NotABlock line

abbrev fault_of : List Lexeme → ScriptFault
fault_of ls = fault_by (first_outside ls) (stands_deep 0 ls) (line_at ls)

unread_is : (k : ScriptKind) (line : ℕ) (ls : List Lexeme) → IsUnread k line ls → fault_of ls ≡ at k line
unread_is kind.Outside line ls h = ap (λ o. fault_by o (stands_deep 0 ls) (line_at ls)) h.1
unread_is kind.TooDeep line ls h =
    ap (λ o. fault_by o (stands_deep 0 ls) (line_at ls)) h.words
    ∙ ap (λ d. fault_by None d (line_at ls)) h.nesting
    ∙ ap (λ n. at kind.TooDeep n) (sym h.start)
unread_is kind.NotABlock line ls h =
    ap (λ o. fault_by o (stands_deep 0 ls) (line_at ls)) h.words
    ∙ ap (λ d. fault_by None d (line_at ls)) h.nesting
    ∙ ap (λ n. at kind.NotABlock n) (sym h.start)
unread_is _ line ls h = absurd h

none_or_some : (o : Option Place) (p : Place) → o ≡ None → o ≡ Some p → ⊥
none_or_some o p e f = cc

-- what is no block is none
never_both : InProfileLaw → (b : BlockTree) (k : ScriptKind) (line : ℕ) (ls : List Lexeme) → IsBlock b ls → IsUnread k line ls → ⊥
never_both law b kind.Outside line ls is h = none_or_some (first_outside ls) (line, h.0) (law b ls is) h.1
never_both law b kind.TooDeep line ls is h = h.no_block b is
never_both law b kind.NotABlock line ls is h = h.no_block b is
never_both law b _ line ls is h = absurd h

next_same : (b c : BlockTree) (bs cs : List BlockTree) (u v : Option ScriptFault) → b ≡ c → (bs ≡ cs) × (u ≡ v) → (b ∷ bs ≡ c ∷ cs) × (u ≡ v)
next_same b c bs cs u v e h = (ap (λ x. x ∷ bs) e ∙ ap (λ l. c ∷ l) h.0, h.1)

pub one_reading : OneBlockLaw → InProfileLaw → OneReadingLaw
one_reading one words [] [] [] None None h g = (refl, refl)
one_reading one words [] [] [] None (Some f) h g = absurd g
one_reading one words [] [] [] (Some f) v h g = absurd h
one_reading one words [] [] (c ∷ cs) u v h g = absurd g
one_reading one words [] (b ∷ bs) cs u v h g = absurd h
one_reading one words (ts ∷ tss) [] [] None v h g = absurd h
one_reading one words (ts ∷ tss) [] [] (Some e) None h g = absurd g
one_reading one words (ts ∷ tss) [] [] (Some e) (Some f) h g =
    (refl, ap Some (sym (unread_is e.kind e.line (lexemes ts) h) ∙ unread_is f.kind f.line (lexemes ts) g))
one_reading one words (ts ∷ tss) [] (c ∷ cs) None v h g = absurd h
one_reading one words (ts ∷ tss) [] (c ∷ cs) (Some e) v h g = absurd (never_both words c e.kind e.line (lexemes ts) g.0 h)
one_reading one words (ts ∷ tss) (b ∷ bs) [] u None h g = absurd g
one_reading one words (ts ∷ tss) (b ∷ bs) [] u (Some f) h g = absurd (never_both words b f.kind f.line (lexemes ts) h.0 g)
one_reading one words (ts ∷ tss) (b ∷ bs) (c ∷ cs) u v h g =
    next_same b c bs cs u v (one b c (lexemes ts) h.0 g.0) (one_reading one words tss bs cs u v h.1 g.1)
