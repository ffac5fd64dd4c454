use Rattle.std.proofs.Common.{◌≡◌, ◌+◌, ◌^◌, ◌-◌, ◌<◌, min, map, drop}
use Rattle.tx_tree.specs.Tree.{statement_of, statements, arm_of, tail, nothing}
use Rattle.tx_tree.specs.Calls.Count.{count_statements, count_tail}
use Rattle.tx_tree.proofs.count.+statement.Given as goal

abbrev pub invariant-count_of_stmts-loop-statement : goal.invariant-count_of_stmts-loop-statement
invariant-count_of_stmts-loop-statement l = (min (l.sum + count_statements (statements (map statement_of (drop l.statement-index l.body)))) (2 ^ 64 - 1) ≡ min (count_statements (statements (map statement_of l.body))) (2 ^ 64 - 1)) × (l.sum < 2 ^ 64)

abbrev pub invariant-count_of_arms-loop-arm : goal.invariant-count_of_arms-loop-arm
invariant-count_of_arms-loop-arm l = (min (l.sum + count_tail (tail (map arm_of (drop l.arm-index l.arms)) nothing)) (2 ^ 64 - 1) ≡ min (count_tail (tail (map arm_of l.arms) nothing)) (2 ^ 64 - 1)) × (l.sum < 2 ^ 64)
