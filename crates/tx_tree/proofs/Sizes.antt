-- How many items a list has, in the code and in its tree.
use Rattle.std.proofs.Common.{◌≡◌, suc, List, [], ◌∷◌, length, map, refl, ap}
use Rattle.tx_tree.specs.declared.expr.Expr.{Expr}
use Rattle.tx_tree.specs.declared.expr.Pair.{Pair}
use Rattle.tx_tree.specs.declared.expr.Operand.{Operand}
use Rattle.tx_tree.specs.declared.stmt.Stmt.{Stmt}
use Rattle.tx_tree.specs.declared.block.Arg.{Arg}
use Rattle.tx_tree.specs.Tree.{tree_of, trees, pair_of, pair_trees, operand_of, operands, statement_of, statements, arg_of}
use Rattle.tx_tree.specs.Form.{amount, amount_of_trees, amount_of_pairs, amount_of_operands, amount_of_statements}
use Rattle.tx_tree.specs.Calls.Count.{size, pairs_size}

pub size_exprs : (xs : List Expr) → size (trees (map tree_of xs)) ≡ length xs
size_exprs [] = refl
size_exprs (x ∷ xs) = ap suc (size_exprs xs)

pub size_pairs : (ps : List Pair) → pairs_size (pair_trees (map pair_of ps)) ≡ length ps
size_pairs [] = refl
size_pairs (p ∷ ps) = ap suc (size_pairs ps)

pub amount_exprs : (xs : List Expr) → amount_of_trees (trees (map tree_of xs)) ≡ amount xs
amount_exprs [] = refl
amount_exprs (x ∷ []) = refl
amount_exprs (x ∷ y ∷ xs) = refl

pub amount_pairs : (xs : List Pair) → amount_of_pairs (pair_trees (map pair_of xs)) ≡ amount xs
amount_pairs [] = refl
amount_pairs (x ∷ []) = refl
amount_pairs (x ∷ y ∷ xs) = refl

pub amount_operands : (xs : List Operand) → amount_of_operands (operands (map operand_of xs)) ≡ amount xs
amount_operands [] = refl
amount_operands (x ∷ []) = refl
amount_operands (x ∷ y ∷ xs) = refl

pub amount_statements : (xs : List Stmt) → amount_of_statements (statements (map statement_of xs)) ≡ amount xs
amount_statements [] = refl
amount_statements (x ∷ []) = refl
amount_statements (x ∷ y ∷ xs) = refl

pub amount_args : (xs : List Arg) → amount (map arg_of xs) ≡ amount xs
amount_args [] = refl
amount_args (x ∷ []) = refl
amount_args (x ∷ y ∷ xs) = refl
