use Rattle.std.proofs.Common.{◌≡◌, ◌+◌, ◌-◌, ◌++◌, ℕ, suc, List, [], ◌∷◌, replicate, ap, sym, ◌∙◌, append_assoc, arith}
use Rattle.tx_plain.specs.declared.stored.Stored.{Stored}
use Rattle.tx_plain.specs.declared.stored.Stored.TheVariants as stored_is
use Rattle.tx_plain.proofs.plain.push_nothing.Goals as goal

pub loop-turn-preserved : goal.loop-turn-preserved
loop-turn-preserved c =
    let x : Stored = stored_is.Made [] in
    let rest : List Stored = replicate (c.args.count - (c.loop-turn.turn + 1)) x in
    let count : c.args.count - c.loop-turn.turn ≡ suc (c.args.count - (c.loop-turn.turn + 1)) = omega (arith, c.loop-turn-test.true) in
    ap (λ (l : List Stored). l ++ rest) (c.in_ok-add.ensures ∙ ap (λ (s : Stored). c.loop-turn.stored.items ++ s ∷ []) c.nothing.ensures.made)
    ∙ append_assoc c.loop-turn.stored.items (x ∷ []) rest
    ∙ ap (λ (l : List Stored). c.loop-turn.stored.items ++ l) (sym (ap (λ (k : ℕ). replicate k x) count))
    ∙ c.loop-turn.invariant
