use Rattle.std.proofs.Common.{◌≡◌, map, drop}
use Rattle.tx_tree.specs.Tree.{statement_of, statements, arm_of, tail, nothing}
use Rattle.tx_names.specs.Scope.{with_inner_all, with_inner_tail}
use Rattle.tx_names.proofs.meet.+inner_of.Given as goal

abbrev pub invariant-add_inner_all-loop-statement : goal.invariant-add_inner_all-loop-statement
invariant-add_inner_all-loop-statement l = with_inner_all (statements (map statement_of (drop l.statement-index l.body))) l.names ≡ with_inner_all (statements (map statement_of l.body)) l.fn.names

abbrev pub invariant-add_inner_in_arms-loop-arm : goal.invariant-add_inner_in_arms-loop-arm
invariant-add_inner_in_arms-loop-arm l = with_inner_tail (tail (map arm_of (drop l.arm-index l.arms)) nothing) l.names ≡ with_inner_tail (tail (map arm_of l.arms) nothing) l.fn.names
