use Rattle.std.proofs.Common.{◌≡◌, ℕ, ◌+◌, [], ◌∷◌, ◌++◌, map, drop, Result, Ok, sym, ap, subst, ◌∙◌, add-one}
use Rattle.std.proofs.lemmas.List.{map-append, at_drop_all}
use Rattle.tx_tree.specs.Tree.{tree_of, trees, pair, pair_of as pair_tree, pair_trees, operand, operand_of as operand_tree, operands}
use Rattle.std.specs.Result.{IfOk}
use Rattle.tx_names.specs.declared.fault.Fault.{Fault}
use Rattle.tx_names.specs.Function as f
use Rattle.tx_names.specs.Linked.{◌>>=◌}
use Rattle.tx_names.specs.View.{expr_of, pair_of, operand_of, iterable_of}
use Rattle.tx_names.specs.Calls.Around.{slot_of, known, scope_of, linked, linked_each, linked_pairs, linked_operands}
use Rattle.tx_names.proofs.Items.{item_next}
use Rattle.tx_names.proofs.Nodes as node
use Rattle.tx_names.proofs.Fronts.{front, pairs_front, operands_front, front_end, pairs_end, operands_end, each_step, pairs_step, operands_step}
use Rattle.tx_names.proofs.Iterables.{no_walk}
use Rattle.tx_names.proofs.link.+link.Goals as goal

pub link_each-loop-item-preserved : goal.link_each-loop-item-preserved
link_each-loop-item-preserved t c =
    each_step (linked_each c.args.around.now c.args.inner.now.value (trees (map tree_of (drop (c.loop-item.item-index + 1) c.args.items.now)))) (linked c.args.around.now c.args.inner.now.value (tree_of c.item-item.result))
    (map expr_of c.loop-item.out) _ (expr_of c.in_ok-x.x) c.in_ok-x.ensures.ok (ap (map expr_of) c.in_ok-push.ensures.ok ∙ map-append expr_of c.loop-item.out (c.in_ok-x.x ∷ []))
    ∙ ap (λ es. linked_each c.args.around.now c.args.inner.now.value (trees (map tree_of es)) >>= (λ r. Ok (front (map expr_of c.loop-item.out) r)))
    (item_next c.args.items.now c.loop-item.item-index _ c.item-item.result c.loop-item-test.true c.item-item.is (add-one c.loop-item.item-index))
    ∙ c.loop-item.invariant

pub link_each-returns-clause-ok : goal.link_each-returns-clause-ok
link_each-returns-clause-ok t c =
    sym c.loop-item.invariant
    ∙ at_drop_all (λ es. linked_each c.args.around.now c.args.inner.now.value (trees (map tree_of es)) >>= (λ r. Ok (front (map expr_of c.loop-item.out) r))) c.args.items.now c.loop-item.item-index c.loop-item-test.false
    ∙ ap Ok (front_end (map expr_of c.loop-item.out))

pub link_pairs-loop-pair-preserved : goal.link_pairs-loop-pair-preserved
link_pairs-loop-pair-preserved t c =
    pairs_step (linked_pairs c.args.around.now c.args.inner.now.value (pair_trees (map pair_tree (drop (c.loop-pair.pair-index + 1) c.args.items.now))))
    (linked c.args.around.now c.args.inner.now.value (tree_of c.pair-item.result.key)) (linked c.args.around.now c.args.inner.now.value (tree_of c.pair-item.result.value))
    (map pair_of c.loop-pair.out) _ (expr_of c.in_ok-key.key) (expr_of c.in_ok-value.value) c.in_ok-key.ensures.ok c.in_ok-value.ensures.ok
    (ap (map pair_of) c.in_ok-push.ensures.ok ∙ map-append pair_of c.loop-pair.out (_ ∷ []) ∙ ap (λ p. map pair_of c.loop-pair.out ++ p ∷ []) (node.made_pair record { key = c.in_ok-key.key; value = c.in_ok-value.value }))
    ∙ ap (λ p. linked_pairs c.args.around.now c.args.inner.now.value (pair p.0 p.1 (pair_trees (map pair_tree (drop (c.loop-pair.pair-index + 1) c.args.items.now)))) >>= (λ r. Ok (pairs_front (map pair_of c.loop-pair.out) r)))
    (sym (node.pair_tree c.pair-item.result))
    ∙ ap (λ ps. linked_pairs c.args.around.now c.args.inner.now.value (pair_trees (map pair_tree ps)) >>= (λ r. Ok (pairs_front (map pair_of c.loop-pair.out) r)))
    (item_next c.args.items.now c.loop-pair.pair-index _ c.pair-item.result c.loop-pair-test.true c.pair-item.is (add-one c.loop-pair.pair-index))
    ∙ c.loop-pair.invariant

pub link_pairs-returns-clause-ok : goal.link_pairs-returns-clause-ok
link_pairs-returns-clause-ok t c =
    sym c.loop-pair.invariant
    ∙ at_drop_all (λ ps. linked_pairs c.args.around.now c.args.inner.now.value (pair_trees (map pair_tree ps)) >>= (λ r. Ok (pairs_front (map pair_of c.loop-pair.out) r))) c.args.items.now c.loop-pair.pair-index c.loop-pair-test.false
    ∙ ap Ok (pairs_end (map pair_of c.loop-pair.out))

pub link_operands-loop-operand-preserved : goal.link_operands-loop-operand-preserved
link_operands-loop-operand-preserved t c =
    operands_step (linked_operands c.args.around.now c.args.inner.now.value (operands (map operand_tree (drop (c.loop-operand.operand-index + 1) c.args.others.now))))
    (linked c.args.around.now c.args.inner.now.value (tree_of c.operand-item.result.right)) c.operand-item.result.op
    (map operand_of c.loop-operand.out) _ (expr_of c.in_ok-right.right) c.in_ok-right.ensures.ok
    (ap (map operand_of) c.in_ok-push.ensures.ok ∙ map-append operand_of c.loop-operand.out (_ ∷ []) ∙ ap (λ p. map operand_of c.loop-operand.out ++ p ∷ []) (node.made_operand record { op = c.operand-item.result.op; right = c.in_ok-right.right }))
    ∙ ap (λ p. linked_operands c.args.around.now c.args.inner.now.value (operand p.0 p.1 (operands (map operand_tree (drop (c.loop-operand.operand-index + 1) c.args.others.now)))) >>= (λ r. Ok (operands_front (map operand_of c.loop-operand.out) r)))
    (sym (node.operand_tree c.operand-item.result))
    ∙ ap (λ os. linked_operands c.args.around.now c.args.inner.now.value (operands (map operand_tree os)) >>= (λ r. Ok (operands_front (map operand_of c.loop-operand.out) r)))
    (item_next c.args.others.now c.loop-operand.operand-index _ c.operand-item.result c.loop-operand-test.true c.operand-item.is (add-one c.loop-operand.operand-index))
    ∙ c.loop-operand.invariant

pub link_operands-returns-clause-ok : goal.link_operands-returns-clause-ok
link_operands-returns-clause-ok t c =
    sym c.loop-operand.invariant
    ∙ at_drop_all (λ os. linked_operands c.args.around.now c.args.inner.now.value (operands (map operand_tree os)) >>= (λ r. Ok (operands_front (map operand_of c.loop-operand.out) r))) c.args.others.now c.loop-operand.operand-index c.loop-operand-test.false
    ∙ ap Ok (operands_end (map operand_of c.loop-operand.out))

pub link_iterable-returns-in_default-clause-ok : goal.link_iterable-returns-in_default-clause-ok
link_iterable-returns-in_default-clause-ok t c =
    subst (λ (u : Result (f.Iterable ℕ) Fault). IfOk c.link_value-in_default.result (λ i. u ≡ Ok (iterable_of i)))
    (sym (no_walk (slot_of c.args.around.now) (known c.args.around.now) (scope_of c.args.around.now c.args.inner.now.value) _ c.args.e.now c.in_default.not-Call c.in_default.not-Method)) c.link_value-in_default.ensures.ok

pub link_iterable-returns-in_default-clause-fault : goal.link_iterable-returns-in_default-clause-fault
link_iterable-returns-in_default-clause-fault t c e h =
    no_walk (slot_of c.args.around.now) (known c.args.around.now) (scope_of c.args.around.now c.args.inner.now.value) _ c.args.e.now c.in_default.not-Call c.in_default.not-Method
    ∙ c.link_value-in_default.ensures.fault e h
