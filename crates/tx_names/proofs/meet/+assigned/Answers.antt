use Rattle.std.proofs.Common.{◌+◌, map, drop, sym, ap, ◌∙◌, add-one}
use Rattle.tx_tree.specs.Tree.{statement_of, statements, arm_of, tail, nothing}
use Rattle.tx_name_set.specs.NameSet.{add_all}
use Rattle.tx_names.specs.Scope.{assigned, assigned_body, assigned_each, assigned_tail}
use Rattle.tx_names.proofs.Nodes.{arm_tree}
use Rattle.tx_names.proofs.Items.{item_next}
use Rattle.tx_names.proofs.Meeting.{add_all-append}
use Rattle.tx_names.proofs.meet.+assigned.Goals as goal

pub add_assigned_each-loop-statement-preserved : goal.add_assigned_each-loop-statement-preserved
add_assigned_each-loop-statement-preserved t c =
    ap (λ ns. add_all ns (assigned_each (statements (map statement_of (drop (c.loop-statement.statement-index + 1) c.args.body.now))))) c.in_ok-add_assigned.ensures
    ∙ sym (add_all-append c.loop-statement.names (assigned (statement_of c.statement-item.result)) (assigned_each (statements (map statement_of (drop (c.loop-statement.statement-index + 1) c.args.body.now)))))
    ∙ ap (λ ss. add_all c.loop-statement.names (assigned_each (statements (map statement_of ss)))) (item_next c.args.body.now c.loop-statement.statement-index _ c.statement-item.result c.loop-statement-test.true c.statement-item.is (add-one c.loop-statement.statement-index))
    ∙ c.loop-statement.invariant

pub add_assigned_in_arms-loop-arm-preserved : goal.add_assigned_in_arms-loop-arm-preserved
add_assigned_in_arms-loop-arm-preserved t c =
    ap (λ ns. add_all ns (assigned_tail (tail (map arm_of (drop (c.loop-arm.arm-index + 1) c.args.arms.now)) nothing))) c.in_ok-add_assigned_in.ensures
    ∙ ap (λ p. add_all (add_all c.loop-arm.names (assigned_body p.1)) (assigned_tail (tail (map arm_of (drop (c.loop-arm.arm-index + 1) c.args.arms.now)) nothing))) (sym (arm_tree c.arm-item.result))
    ∙ sym (add_all-append c.loop-arm.names (assigned_body (arm_of c.arm-item.result).1) (assigned_tail (tail (map arm_of (drop (c.loop-arm.arm-index + 1) c.args.arms.now)) nothing)))
    ∙ ap (λ ss. add_all c.loop-arm.names (assigned_tail (tail (map arm_of ss) nothing))) (item_next c.args.arms.now c.loop-arm.arm-index _ c.arm-item.result c.loop-arm-test.true c.arm-item.is (add-one c.loop-arm.arm-index))
    ∙ c.loop-arm.invariant
