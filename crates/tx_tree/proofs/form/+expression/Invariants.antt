use Rattle.std.proofs.Common.{◌≡◌, map, drop}
use Rattle.tx_tree.specs.Tree.{tree_of, trees, pair_of, pair_trees, operand_of, operands}
use Rattle.tx_tree.specs.Form.{fine_each, fine_pairs, fine_operands}
use Rattle.tx_tree.proofs.form.+expression.Given as goal

abbrev pub invariant-are_fine-loop-item : goal.invariant-are_fine-loop-item
invariant-are_fine-loop-item l = fine_each (trees (map tree_of (drop l.item-index l.items))) ≡ fine_each (trees (map tree_of l.items))

abbrev pub invariant-are_pairs_fine-loop-pair : goal.invariant-are_pairs_fine-loop-pair
invariant-are_pairs_fine-loop-pair l = fine_pairs (pair_trees (map pair_of (drop l.pair-index l.pairs))) ≡ fine_pairs (pair_trees (map pair_of l.pairs))

abbrev pub invariant-are_operands_fine-loop-operand : goal.invariant-are_operands_fine-loop-operand
invariant-are_operands_fine-loop-operand l = fine_operands (operands (map operand_of (drop l.operand-index l.others))) ≡ fine_operands (operands (map operand_of l.others))
