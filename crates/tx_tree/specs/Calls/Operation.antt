-- Which nodes of an expression have an operator: the others are atoms, and what stands behind one in brackets or with a dot.
use Rattle.std.specs.Prelude.{Bool, true, false}
use Rattle.tx_tree.specs.Tree.{Tree, unary, binary, compare, negation, conjunction, disjunction, conditional}

abbrev pub is_operation : Tree → Bool
is_operation (unary l o a) = true
is_operation (binary l a o b) = true
is_operation (compare l a os) = true
is_operation (negation l a) = true
is_operation (conjunction l a es) = true
is_operation (disjunction l a es) = true
is_operation (conditional l a t b) = true
is_operation _ = false
