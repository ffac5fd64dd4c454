use Rattle.std.proofs.Common.{◌≡◌, ◌+◌, ◌++◌, ℕ, List, Option, [], append-nil, append_assoc, sym, ap, subst, ◌∙◌}
use Rattle.std.specs.List.{flat_map}
use Rattle.tx_values.specs.declared.row.Row.{Row}
use Rattle.tx_joins.specs.Calls.Chains.{IsChain, pair_at}
use Rattle.tx_joins.proofs.Chains.{Begins, begins, ended, past}
use Rattle.tx_joins.proofs.joining.add_pairs.Goals as goal

pub returns-in-None : goal.returns-in-None
returns-in-None c places chain =
    let f : ℕ → List Row = pair_at c.args.right_key c.args.left.now c.args.rights.now in
    let told = c.loop-turn.invariant places chain in
    let none : told.0 ≡ [] = ended c.args.next.now c.loop-turn._turn told.0
    (subst (λ (s : Option ℕ). IsChain c.args.next.now c.loop-turn._turn s told.0) c.in-None.is told.1.0) in
    sym (append-nil c.loop-turn.rows) ∙ ap (λ (ps : List ℕ). c.loop-turn.rows ++ flat_map f ps) (sym none) ∙ told.1.1

pub loop-turn-preserved : goal.loop-turn-preserved
loop-turn-preserved c places chain =
    let f : ℕ → List Row = pair_at c.args.right_key c.args.left.now c.args.rights.now in
    let told = c.loop-turn.invariant places chain in
    let going : Begins c.args.next.now c.loop-turn._turn c.in-Some.place told.0 = begins c.args.next.now c.loop-turn._turn c.in-Some.place told.0
    (subst (λ (s : Option ℕ). IsChain c.args.next.now c.loop-turn._turn s told.0) c.in-Some.is told.1.0) in (
      going.rest,
      (
        subst (λ (s : Option ℕ). IsChain c.args.next.now (c.loop-turn._turn + 1) s going.rest) (sym c.behind-after.ensures) going.chain,
        ap (λ (rs : List Row). rs ++ flat_map f going.rest) c.in_ok-add_pair-in-Some.ensures
            ∙ append_assoc c.loop-turn.rows (f c.in-Some.place) (flat_map f going.rest)
            ∙ ap (λ (ps : List ℕ). c.loop-turn.rows ++ flat_map f ps) (sym going.same) ∙ told.1.1,
      ),
    )

pub returns : goal.returns
returns c places chain =
    let f : ℕ → List Row = pair_at c.args.right_key c.args.left.now c.args.rights.now in
    let told = c.loop-turn.invariant places chain in
    let none : told.0 ≡ [] = past c.args.next.now c.loop-turn._turn c.loop-turn.start told.0 c.loop-turn-test.false told.1.0 in
    sym (append-nil c.loop-turn.rows) ∙ ap (λ (ps : List ℕ). c.loop-turn.rows ++ flat_map f ps) (sym none) ∙ told.1.1
