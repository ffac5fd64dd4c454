use Rattle.std.proofs.Common.{◌≡◌, ◌++◌, map, drop}
use Rattle.tx_names.specs.View.{expr_of, exprs, pair_of, pairs, operand_of, comparisons}
use Rattle.tx_names.specs.Parts.{columns_in_each, columns_in_pairs, columns_in_comparisons}
use Rattle.tx_names.proofs.columns.+columns.Given as goal

abbrev pub invariant-add_columns_each-loop-item : goal.invariant-add_columns_each-loop-item
invariant-add_columns_each-loop-item l = l.columns ++ columns_in_each (exprs (map expr_of (drop l.item-index l.items))) ≡ l.fn.columns ++ columns_in_each (exprs (map expr_of l.items))

abbrev pub invariant-add_columns_pairs-loop-item : goal.invariant-add_columns_pairs-loop-item
invariant-add_columns_pairs-loop-item l = l.columns ++ columns_in_pairs (pairs (map pair_of (drop l.item-index l.items))) ≡ l.fn.columns ++ columns_in_pairs (pairs (map pair_of l.items))

abbrev pub invariant-add_columns_operands-loop-item : goal.invariant-add_columns_operands-loop-item
invariant-add_columns_operands-loop-item l = l.columns ++ columns_in_comparisons (comparisons (map operand_of (drop l.item-index l.items))) ≡ l.fn.columns ++ columns_in_comparisons (comparisons (map operand_of l.items))
