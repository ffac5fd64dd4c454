use Rattle.std.proofs.Common.{◌≡◌, ◌+◌, List, [], ◌∷◌, ◌++◌, map, drop, Ok, sym, ap, ◌∙◌, add-one}
use Rattle.std.proofs.lemmas.List.{map-append, at_drop_all}
use Rattle.tx_tree.specs.declared.stmt.Stmt.{Stmt}
use Rattle.tx_tree.specs.declared.stmt.Arm.{Arm}
use Rattle.tx_names.specs.declared.code.BoundArm.{roll-BoundArm}
use Rattle.tx_tree.specs.Tree.{tree_of, body_of as body_tree, statement_of as statement_tree, statements as statement_trees, arm_of as arm_tree_of, tail, nothing, elif, otherwise_of}
use Rattle.tx_names.specs.Linked.{◌>>=◌}
use Rattle.tx_names.specs.View.{expr_of, statement_of, statements, arm_of, arms}
use Rattle.tx_names.specs.Calls.Around.{slot_of, known, scope_of, linked, does, does_all, does_body, arms_of, other_of, arms_behind}
use Rattle.tx_names.proofs.Items.{item_next}
use Rattle.tx_names.proofs.Nodes.{arm_tree, made_arm}
use Rattle.tx_names.proofs.Fronts.{statements_front, arms_front, statements_end, arms_end, all_step, arms_step}
use Rattle.tx_names.proofs.Branches.{if_linked, if_is}
use Rattle.tx_names.proofs.link_body.+link_body.Goals as goal

pub link_all-loop-statement-preserved : goal.link_all-loop-statement-preserved
link_all-loop-statement-preserved t c =
    all_step (does_all c.args.around.now c.args.inner.now.value (statement_trees (map statement_tree (drop (c.loop-statement.statement-index + 1) c.args.body.now)))) (does c.args.around.now c.args.inner.now.value (statement_tree c.statement-item.result))
    (map statement_of c.loop-statement.out) _ (statement_of c.in_ok-x.x) c.in_ok-x.ensures.ok (ap (map statement_of) c.in_ok-push.ensures.ok ∙ map-append statement_of c.loop-statement.out (c.in_ok-x.x ∷ []))
    ∙ ap (λ ss. does_all c.args.around.now c.args.inner.now.value (statement_trees (map statement_tree ss)) >>= (λ r. Ok (statements_front (map statement_of c.loop-statement.out) r)))
    (item_next c.args.body.now c.loop-statement.statement-index _ c.statement-item.result c.loop-statement-test.true c.statement-item.is (add-one c.loop-statement.statement-index))
    ∙ c.loop-statement.invariant

pub link_all-returns-clause-ok : goal.link_all-returns-clause-ok
link_all-returns-clause-ok t c =
    sym c.loop-statement.invariant
    ∙ at_drop_all (λ ss. does_all c.args.around.now c.args.inner.now.value (statement_trees (map statement_tree ss)) >>= (λ r. Ok (statements_front (map statement_of c.loop-statement.out) r))) c.args.body.now c.loop-statement.statement-index c.loop-statement-test.false
    ∙ ap Ok (statements_end (map statement_of c.loop-statement.out))

pub link_arms-returns-clause-ok : goal.link_arms-returns-clause-ok
link_arms-returns-clause-ok t c =
    sym c.loop-arm.invariant
    ∙ at_drop_all (λ xs. arms_of c.args.around.now c.args.inner.now.value (tail (map arm_tree_of xs) nothing) >>= (λ r. Ok (arms_front (map arm_of c.loop-arm.out) r))) c.args.others.now c.loop-arm.arm-index c.loop-arm-test.false
    ∙ ap Ok (arms_end (map arm_of c.loop-arm.out))

pub link_arms-loop-arm-preserved : goal.link_arms-loop-arm-preserved
link_arms-loop-arm-preserved t c =
    arms_step (arms_of c.args.around.now c.args.inner.now.value (tail (map arm_tree_of (drop (c.loop-arm.arm-index + 1) c.args.others.now)) nothing))
    (linked c.args.around.now c.args.inner.now.value (tree_of c.arm-item.result.test)) (does_body c.args.around.now c.args.inner.now.value (body_tree c.arm-item.result.suite))
    (map arm_of c.loop-arm.out) _ (expr_of c.in_ok-test.test) (statements (map statement_of c.in_ok-body.body)) c.in_ok-test.ensures.ok c.in_ok-body.ensures.ok
    (ap (map arm_of) c.in_ok-push-2.ensures.ok ∙ map-append arm_of c.loop-arm.out (_ ∷ []) ∙ ap (λ p. map arm_of c.loop-arm.out ++ p ∷ []) (made_arm record { test = c.in_ok-test.test; body = c.in_ok-body.body }))
    ∙ ap (λ p. arms_of c.args.around.now c.args.inner.now.value (elif p.0 p.1 (tail (map arm_tree_of (drop (c.loop-arm.arm-index + 1) c.args.others.now)) nothing)) >>= (λ r. Ok (arms_front (map arm_of c.loop-arm.out) r)))
    (sym (arm_tree c.arm-item.result))
    ∙ ap (λ xs. arms_of c.args.around.now c.args.inner.now.value (tail (map arm_tree_of xs) nothing) >>= (λ r. Ok (arms_front (map arm_of c.loop-arm.out) r)))
    (item_next c.args.others.now c.loop-arm.arm-index _ c.arm-item.result c.loop-arm-test.true c.arm-item.is (add-one c.loop-arm.arm-index))
    ∙ c.loop-arm.invariant

pub link_stmt-returns-in_ok-other-in-If-clause-ok : goal.link_stmt-returns-in_ok-other-in-If-clause-ok
link_stmt-returns-in_ok-other-in-If-clause-ok t c =
    let h : arms_behind c.args.around.now c.args.inner.now.value (arm_of (roll-BoundArm record { test = c.in_ok-test-in-If.test; body = c.in_ok-body-in-If.body })) (tail (map arm_tree_of c.as_slice.result.now) nothing) ≡ Ok (arms (map arm_of c.in_ok-arms-in-If.arms)) = c.in_ok-arms-in-If.ensures.ok in
    let o : other_of c.args.around.now c.args.inner.now.value (otherwise_of c.in-If.otherwise) ≡ Ok (statements (map statement_of c.in_ok-other-in-If.other)) = c.in_ok-other-in-If.ensures.ok in
    let e : linked c.args.around.now c.args.inner.now.value (tree_of c.in-If.test) ≡ Ok (expr_of c.in_ok-test-in-If.test) = c.in_ok-test-in-If.ensures.ok in
    let b : does_body c.args.around.now c.args.inner.now.value (body_tree c.in-If.suite) ≡ Ok (statements (map statement_of c.in_ok-body-in-If.body)) = c.in_ok-body-in-If.ensures.ok in
    ap (λ (s : Stmt). does c.args.around.now c.args.inner.now.value (statement_tree s)) c.in-If.is
    ∙ if_linked (slot_of c.args.around.now) (known c.args.around.now) (scope_of c.args.around.now c.args.inner.now.value) c.in-If.line c.in-If.test c.in-If.suite c.in-If.arms c.in-If.otherwise
    (expr_of c.in_ok-test-in-If.test) (statements (map statement_of c.in_ok-body-in-If.body)) (arms (map arm_of c.in_ok-arms-in-If.arms)) (statements (map statement_of c.in_ok-other-in-If.other)) e b
    (ap (λ p. arms_behind c.args.around.now c.args.inner.now.value p (tail (map arm_tree_of c.in-If.arms) nothing)) (sym (made_arm record { test = c.in_ok-test-in-If.test; body = c.in_ok-body-in-If.body }))
    ∙ ap (λ (xs : List Arm). arms_behind c.args.around.now c.args.inner.now.value (arm_of (roll-BoundArm record { test = c.in_ok-test-in-If.test; body = c.in_ok-body-in-If.body })) (tail (map arm_tree_of xs) nothing)) (sym c.as_slice.ensures) ∙ h) o
    ∙ ap Ok (sym (if_is c.in_ok-arms-in-If.arms c.in_ok-other-in-If.other))
