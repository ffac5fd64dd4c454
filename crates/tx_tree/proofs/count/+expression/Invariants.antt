use Rattle.std.proofs.Common.{◌≡◌, ◌+◌, ◌^◌, ◌-◌, ◌<◌, min, map, drop}
use Rattle.tx_tree.specs.Tree.{tree_of, trees, pair_of, pair_trees, operand_of, operands}
use Rattle.tx_tree.specs.Calls.Count.{count_each, count_pairs, count_operands}
use Rattle.tx_tree.proofs.count.+expression.Given as goal

abbrev pub invariant-count_of_exprs-loop-item : goal.invariant-count_of_exprs-loop-item
invariant-count_of_exprs-loop-item l = (min (l.sum + count_each (trees (map tree_of (drop l.item-index l.items)))) (2 ^ 64 - 1) ≡ min (count_each (trees (map tree_of l.items))) (2 ^ 64 - 1)) × (l.sum < 2 ^ 64)

abbrev pub invariant-count_of_pairs-loop-pair : goal.invariant-count_of_pairs-loop-pair
invariant-count_of_pairs-loop-pair l = (min (l.sum + count_pairs (pair_trees (map pair_of (drop l.pair-index l.pairs)))) (2 ^ 64 - 1) ≡ min (count_pairs (pair_trees (map pair_of l.pairs))) (2 ^ 64 - 1)) × (l.sum < 2 ^ 64)

abbrev pub invariant-count_of_operands-loop-operand : goal.invariant-count_of_operands-loop-operand
invariant-count_of_operands-loop-operand l = (min (l.sum + count_operands (operands (map operand_of (drop l.operand-index l.others)))) (2 ^ 64 - 1) ≡ min (count_operands (operands (map operand_of l.others))) (2 ^ 64 - 1)) × (l.sum < 2 ^ 64)
