use Rattle.std.proofs.Common.{◌≡◌, map, drop}
use Rattle.tx_tree.specs.Tree.{tree_of, trees, pair_of, pair_trees, operand_of, operands}
use Rattle.tx_names.specs.Scope.{with_inner_each, with_inner_pairs, with_inner_operands}
use Rattle.tx_names.proofs.meet.+inner.Given as goal

abbrev pub invariant-add_inner_each-loop-item : goal.invariant-add_inner_each-loop-item
invariant-add_inner_each-loop-item l = with_inner_each (trees (map tree_of (drop l.item-index l.items))) l.names ≡ with_inner_each (trees (map tree_of l.items)) l.fn.names

abbrev pub invariant-add_inner_pairs-loop-pair : goal.invariant-add_inner_pairs-loop-pair
invariant-add_inner_pairs-loop-pair l = with_inner_pairs (pair_trees (map pair_of (drop l.pair-index l.pairs))) l.names ≡ with_inner_pairs (pair_trees (map pair_of l.pairs)) l.fn.names

abbrev pub invariant-add_inner_operands-loop-operand : goal.invariant-add_inner_operands-loop-operand
invariant-add_inner_operands-loop-operand l = with_inner_operands (operands (map operand_of (drop l.operand-index l.others))) l.names ≡ with_inner_operands (operands (map operand_of l.others)) l.fn.names
