use Rattle.std.proofs.Common.{◌≡◌, ◌^◌, ◌-◌, ◌<◌, max, min, map, drop}
use Rattle.tx_tree.specs.Tree.{statement_of, statements, arm_of, tail, nothing}
use Rattle.tx_tree.specs.Depth.{depth_statements, depth_tail}
use Rattle.tx_tree.proofs.depths.+statement.Given as goal

abbrev pub invariant-depth_of_stmts-loop-statement : goal.invariant-depth_of_stmts-loop-statement
invariant-depth_of_stmts-loop-statement l = (min (max l.most (depth_statements (statements (map statement_of (drop l.statement-index l.body))))) (2 ^ 32 - 1) ≡ min (depth_statements (statements (map statement_of l.body))) (2 ^ 32 - 1)) × (l.most < 2 ^ 32)

abbrev pub invariant-depth_of_arms-loop-arm : goal.invariant-depth_of_arms-loop-arm
invariant-depth_of_arms-loop-arm l = (min (max l.most (depth_tail (tail (map arm_of (drop l.arm-index l.arms)) nothing))) (2 ^ 32 - 1) ≡ min (depth_tail (tail (map arm_of l.arms) nothing)) (2 ^ 32 - 1)) × (l.most < 2 ^ 32)
