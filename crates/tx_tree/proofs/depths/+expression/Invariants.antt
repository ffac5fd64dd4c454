use Rattle.std.proofs.Common.{◌≡◌, ◌^◌, ◌-◌, ◌<◌, max, min, map, drop}
use Rattle.tx_tree.specs.Tree.{tree_of, trees, pair_of, pair_trees, operand_of, operands}
use Rattle.tx_tree.specs.Depth.{depth_each, depth_pairs, depth_operands}
use Rattle.tx_tree.proofs.depths.+expression.Given as goal

abbrev pub invariant-depth_of_exprs-loop-item : goal.invariant-depth_of_exprs-loop-item
invariant-depth_of_exprs-loop-item l = (min (max l.most (depth_each (trees (map tree_of (drop l.item-index l.items))))) (2 ^ 32 - 1) ≡ min (depth_each (trees (map tree_of l.items))) (2 ^ 32 - 1)) × (l.most < 2 ^ 32)

abbrev pub invariant-depth_of_pairs-loop-pair : goal.invariant-depth_of_pairs-loop-pair
invariant-depth_of_pairs-loop-pair l = (min (max l.most (depth_pairs (pair_trees (map pair_of (drop l.pair-index l.pairs))))) (2 ^ 32 - 1) ≡ min (depth_pairs (pair_trees (map pair_of l.pairs))) (2 ^ 32 - 1)) × (l.most < 2 ^ 32)

abbrev pub invariant-depth_of_operands-loop-operand : goal.invariant-depth_of_operands-loop-operand
invariant-depth_of_operands-loop-operand l = (min (max l.most (depth_operands (operands (map operand_of (drop l.operand-index l.others))))) (2 ^ 32 - 1) ≡ min (depth_operands (operands (map operand_of l.others))) (2 ^ 32 - 1)) × (l.most < 2 ^ 32)
