use Rattle.std.proofs.Common.{◌≡◌, map, drop}
use Rattle.tx_tree.specs.Tree.{statement_of, statements, arm_of, tail, nothing}
use Rattle.tx_name_set.specs.NameSet.{add_all}
use Rattle.tx_names.specs.Scope.{assigned_each, assigned_tail}
use Rattle.tx_names.proofs.meet.+assigned.Given as goal

abbrev pub invariant-add_assigned_each-loop-statement : goal.invariant-add_assigned_each-loop-statement
invariant-add_assigned_each-loop-statement l = add_all l.names (assigned_each (statements (map statement_of (drop l.statement-index l.body)))) ≡ add_all l.fn.names (assigned_each (statements (map statement_of l.body)))

abbrev pub invariant-add_assigned_in_arms-loop-arm : goal.invariant-add_assigned_in_arms-loop-arm
invariant-add_assigned_in_arms-loop-arm l = add_all l.names (assigned_tail (tail (map arm_of (drop l.arm-index l.arms)) nothing)) ≡ add_all l.fn.names (assigned_tail (tail (map arm_of l.arms) nothing))
