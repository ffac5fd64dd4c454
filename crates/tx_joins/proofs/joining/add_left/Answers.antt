use Rattle.std.proofs.Common.{◌≡◌, ◌++◌, ◌∷◌, [], ℕ, List, Option, Some, refl, sym, ap, subst, ◌∙◌}
use Rattle.std.proofs.lemmas.Result.{on_ok_weaker}
use Rattle.std.specs.HashMap.{get}
use Rattle.tx_values.specs.declared.row.Row.{Row}
use Rattle.tx_values.specs.Keys.{key_of, same_key}
use Rattle.tx_joins.specs.Join.{cell_of}
use Rattle.tx_joins.specs.Calls.Chains.{IsChain, KeyAtoms, places_of}
use Rattle.tx_joins.proofs.Chains.{Begins, begins, ended, head_of-some}
use Rattle.tx_joins.proofs.Pairs.{given-pairs, given-alone, given-nothing}
use Rattle.tx_joins.proofs.joining.add_left.Goals as goal

pub returns-in-Some-first : goal.returns-in-Some-first
returns-in-Some-first c left_key told index =
    let said = head_of-some left_key (get same_key c.args.side.now.index.heads) c.args.left.now c.in-Some.first (sym c.in-Some.is ∙ told) in
    let key : KeyAtoms = key_of (cell_of left_key c.args.left.now) in
    let next : List (Option ℕ) = c.args.side.now.index.next.items in
    let places : List ℕ = places_of c.args.side.now.key key 0 c.args.rights.now in
    let chain : IsChain next 0 (Some c.in-Some-first.head) places
    = subst (λ (s : Option ℕ). IsChain next 0 s places) (sym (sym c.in-Some-first.is ∙ said.1)) (index key) in
    let going : Begins next 0 c.in-Some-first.head places = begins next 0 c.in-Some-first.head places chain in
    let same : c.as_slice.result.now ≡ next = c.as_slice.ensures.value in
    let added = c.add_pairs.ensures places (subst (λ (n : List (Option ℕ)). IsChain n 0 (Some c.in-Some-first.head) places) (sym same) chain) in
    on_ok_weaker c.add_pairs.result
    (given-pairs c.keys_follow_equality.ensures.same c.keys_follow_equality.ensures.equal left_key c.args.side.now.key c.args.left.now c.args.rights.now said.0
    key refl c.args.side.now.keep c.args.side.now.width c.in-Some-first.head going.rest c.args.rows.now c.add_pairs.new.rows going.same)
    added

pub returns-in_ok-alone_row-in-None : goal.returns-in_ok-alone_row-in-None
returns-in_ok-alone_row-in-None c left_key told index =
    let said = head_of-some left_key (get same_key c.args.side.now.index.heads) c.args.left.now c.in-Some.first (sym c.in-Some.is ∙ told) in
    let key : KeyAtoms = key_of (cell_of left_key c.args.left.now) in
    let next : List (Option ℕ) = c.args.side.now.index.next.items in
    let places : List ℕ = places_of c.args.side.now.key key 0 c.args.rights.now in
    let none : places ≡ [] = ended next 0 places (subst (λ (s : Option ℕ). IsChain next 0 s places) (sym (sym c.in-None.is ∙ said.1)) (index key)) in
    rw c.if-side.true
    (on_ok_weaker c.push.result
    (λ (h : c.push.new.self ≡ c.args.rows.now ++ c.in_ok-alone_row-in-None.field-0 ∷ []).
    given-alone c.keys_follow_equality.ensures.same c.keys_follow_equality.ensures.equal left_key c.args.side.now.key c.args.left.now c.args.rights.now said.0
    key refl c.args.side.now.width c.args.rows.now c.push.new.self none
    (h ∙ ap (λ (r : Row). c.args.rows.now ++ r ∷ []) c.in_ok-alone_row-in-None.ensures))
    c.push.ensures.ok)

pub returns-in-None-2 : goal.returns-in-None-2
returns-in-None-2 c left_key told index =
    let said = head_of-some left_key (get same_key c.args.side.now.index.heads) c.args.left.now c.in-Some.first (sym c.in-Some.is ∙ told) in
    let key : KeyAtoms = key_of (cell_of left_key c.args.left.now) in
    let next : List (Option ℕ) = c.args.side.now.index.next.items in
    let places : List ℕ = places_of c.args.side.now.key key 0 c.args.rights.now in
    let none : places ≡ [] = ended next 0 places (subst (λ (s : Option ℕ). IsChain next 0 s places) (sym (sym c.in-None-2.is ∙ said.1)) (index key)) in
    rw c.if-side.false
    (given-nothing c.keys_follow_equality.ensures.same c.keys_follow_equality.ensures.equal left_key c.args.side.now.key c.args.left.now c.args.rights.now said.0
    key refl c.args.side.now.width c.args.rows.now none)
