use Rattle.std.proofs.Common.{◌≡◌, map, drop, Ok}
use Rattle.tx_tree.specs.Tree.{tree_of, trees, pair_trees, operands, operand_of as operand_tree, pair_of as pair_tree}
use Rattle.tx_names.specs.Linked.{◌>>=◌}
use Rattle.tx_names.specs.View.{expr_of, pair_of, operand_of}
use Rattle.tx_names.specs.Calls.Around.{linked_each, linked_pairs, linked_operands}
use Rattle.tx_names.proofs.Fronts.{front, pairs_front, operands_front}
use Rattle.tx_names.proofs.link.+link.Given as goal

abbrev pub invariant-link_each-loop-item : goal.invariant-link_each-loop-item
invariant-link_each-loop-item l = (linked_each l.around l.inner.value (trees (map tree_of (drop l.item-index l.items))) >>= (λ r. Ok (front (map expr_of l.out) r))) ≡ linked_each l.around l.inner.value (trees (map tree_of l.items))

abbrev pub invariant-link_pairs-loop-pair : goal.invariant-link_pairs-loop-pair
invariant-link_pairs-loop-pair l = (linked_pairs l.around l.inner.value (pair_trees (map pair_tree (drop l.pair-index l.items))) >>= (λ r. Ok (pairs_front (map pair_of l.out) r))) ≡ linked_pairs l.around l.inner.value (pair_trees (map pair_tree l.items))

abbrev pub invariant-link_operands-loop-operand : goal.invariant-link_operands-loop-operand
invariant-link_operands-loop-operand l = (linked_operands l.around l.inner.value (operands (map operand_tree (drop l.operand-index l.others))) >>= (λ r. Ok (operands_front (map operand_of l.out) r))) ≡ linked_operands l.around l.inner.value (operands (map operand_tree l.others))
