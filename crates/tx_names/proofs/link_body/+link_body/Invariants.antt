use Rattle.std.proofs.Common.{◌≡◌, map, drop, Ok}
use Rattle.tx_tree.specs.Tree.{statement_of as statement_tree, statements as statement_trees, arm_of as arm_tree, tail, nothing}
use Rattle.tx_names.specs.Linked.{◌>>=◌}
use Rattle.tx_names.specs.View.{statement_of, arm_of}
use Rattle.tx_names.specs.Calls.Around.{does_all, arms_of, arms_behind}
use Rattle.tx_names.proofs.Fronts.{statements_front, arms_front}
use Rattle.tx_names.proofs.link_body.+link_body.Given as goal

abbrev pub invariant-link_all-loop-statement : goal.invariant-link_all-loop-statement
invariant-link_all-loop-statement l = (does_all l.around l.inner.value (statement_trees (map statement_tree (drop l.statement-index l.body))) >>= (λ r. Ok (statements_front (map statement_of l.out) r))) ≡ does_all l.around l.inner.value (statement_trees (map statement_tree l.body))

abbrev pub invariant-link_arms-loop-arm : goal.invariant-link_arms-loop-arm
invariant-link_arms-loop-arm l = (arms_of l.around l.inner.value (tail (map arm_tree (drop l.arm-index l.others)) nothing) >>= (λ r. Ok (arms_front (map arm_of l.out) r))) ≡ arms_behind l.around l.inner.value (arm_of l.fn.first) (tail (map arm_tree l.others) nothing)
