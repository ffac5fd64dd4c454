-- The value of an expression that is no call and no method, as an iterable.
use Rattle.std.proofs.Common.{◌≡◌, ℕ, List, Bool, Result, sym, ap, ◌∙◌, subst}
use Rattle.tx_tree.specs.declared.operator.CompareOp.{CompareOp}
use Rattle.tx_tree.specs.declared.target.Word.{Word}
use Rattle.tx_tree.specs.declared.expr.Expr.{Expr, Call, Method, out-Expr, roll-Expr, roll-out-Expr, fold-roll-Expr}
use Rattle.tx_tree.specs.declared.expr.Expr.TheVariants.{rolls-Call, rolls-Method}
use Rattle.tx_tree.specs.declared.expr.Expr.TheOpen.{Expr-F}
use Rattle.tx_tree.specs.declared.expr.Expr.TheOpen as e
use Rattle.tx_tree.specs.declared.expr.Maybe.{Maybe}
use Rattle.tx_tree.specs.declared.expr.Operand.{Operand}
use Rattle.tx_tree.specs.declared.expr.Pair.{Pair}
use Rattle.tx_tree.specs.Tree as t
use Rattle.tx_names.specs.declared.fault.Fault.{Fault}
use Rattle.tx_names.specs.Function as f
use Rattle.tx_names.specs.Function.{Function}
use Rattle.tx_names.specs.Scope.{Text, Scope}
use Rattle.tx_names.specs.Linked as l

abbrev NoCall : Expr → Type 0
NoCall x = (i : ℕ) (n : List ℕ) (es : List Expr) (comma : Bool) → x ≡ Call i n es comma → ⊥

abbrev NoMethod : Expr → Type 0
NoMethod x = (i : ℕ) (a : Expr) (w : Word) (es : List Expr) (comma : Bool) → x ≡ Method i a w es comma → ⊥

module _ (slot : Text → ℕ) (ds : List (Text × Function ℕ)) (s : Scope) (plain : Result (f.Expr ℕ) Fault) where
  abbrev Plain : t.Tree → Type 0
  Plain a = l.linked_iterable slot ds s a plain ≡ l.as_value plain

  by_layer : (x : Expr-F Expr Maybe Operand Pair) → NoCall (roll-Expr x) → NoMethod (roll-Expr x) → Plain (t.tree_of (roll-Expr x))
  by_layer (e.Nil i) h k = ap (λ a. l.linked_iterable slot ds s a plain) (fold-roll-Expr t.Tree t.MaybeTree (CompareOp × t.Tree) (t.Tree × t.Tree) t.tree_step t.maybe_step t.operand_step t.pair_step (e.Nil i))
  by_layer (e.Truth i b) h k = ap (λ a. l.linked_iterable slot ds s a plain) (fold-roll-Expr t.Tree t.MaybeTree (CompareOp × t.Tree) (t.Tree × t.Tree) t.tree_step t.maybe_step t.operand_step t.pair_step (e.Truth i b))
  by_layer (e.Int i n) h k = ap (λ a. l.linked_iterable slot ds s a plain) (fold-roll-Expr t.Tree t.MaybeTree (CompareOp × t.Tree) (t.Tree × t.Tree) t.tree_step t.maybe_step t.operand_step t.pair_step (e.Int i n))
  by_layer (e.Text i x) h k = ap (λ a. l.linked_iterable slot ds s a plain) (fold-roll-Expr t.Tree t.MaybeTree (CompareOp × t.Tree) (t.Tree × t.Tree) t.tree_step t.maybe_step t.operand_step t.pair_step (e.Text i x))
  by_layer (e.Name i n) h k = ap (λ a. l.linked_iterable slot ds s a plain) (fold-roll-Expr t.Tree t.MaybeTree (CompareOp × t.Tree) (t.Tree × t.Tree) t.tree_step t.maybe_step t.operand_step t.pair_step (e.Name i n))
  by_layer (e.Paren i a) h k = ap (λ a. l.linked_iterable slot ds s a plain) (fold-roll-Expr t.Tree t.MaybeTree (CompareOp × t.Tree) (t.Tree × t.Tree) t.tree_step t.maybe_step t.operand_step t.pair_step (e.Paren i a))
  by_layer (e.Tuple i es comma) h k = ap (λ a. l.linked_iterable slot ds s a plain) (fold-roll-Expr t.Tree t.MaybeTree (CompareOp × t.Tree) (t.Tree × t.Tree) t.tree_step t.maybe_step t.operand_step t.pair_step (e.Tuple i es comma))
  by_layer (e.BareTuple i es comma) h k = ap (λ a. l.linked_iterable slot ds s a plain) (fold-roll-Expr t.Tree t.MaybeTree (CompareOp × t.Tree) (t.Tree × t.Tree) t.tree_step t.maybe_step t.operand_step t.pair_step (e.BareTuple i es comma))
  by_layer (e.List i es comma) h k = ap (λ a. l.linked_iterable slot ds s a plain) (fold-roll-Expr t.Tree t.MaybeTree (CompareOp × t.Tree) (t.Tree × t.Tree) t.tree_step t.maybe_step t.operand_step t.pair_step (e.List i es comma))
  by_layer (e.Dict i ps comma) h k = ap (λ a. l.linked_iterable slot ds s a plain) (fold-roll-Expr t.Tree t.MaybeTree (CompareOp × t.Tree) (t.Tree × t.Tree) t.tree_step t.maybe_step t.operand_step t.pair_step (e.Dict i ps comma))
  by_layer (e.Comprehension i a u j c) h k = ap (λ a. l.linked_iterable slot ds s a plain) (fold-roll-Expr t.Tree t.MaybeTree (CompareOp × t.Tree) (t.Tree × t.Tree) t.tree_step t.maybe_step t.operand_step t.pair_step (e.Comprehension i a u j c))
  by_layer (e.Call i n es comma) h k = absurd (h i n es comma (rolls-Call i n es comma))
  by_layer (e.Method i a w es comma) h k = absurd (k i a w es comma (rolls-Method i a w es comma))
  by_layer (e.Index i a j) h k = ap (λ a. l.linked_iterable slot ds s a plain) (fold-roll-Expr t.Tree t.MaybeTree (CompareOp × t.Tree) (t.Tree × t.Tree) t.tree_step t.maybe_step t.operand_step t.pair_step (e.Index i a j))
  by_layer (e.Slice i a j u) h k = ap (λ a. l.linked_iterable slot ds s a plain) (fold-roll-Expr t.Tree t.MaybeTree (CompareOp × t.Tree) (t.Tree × t.Tree) t.tree_step t.maybe_step t.operand_step t.pair_step (e.Slice i a j u))
  by_layer (e.Unary i op a) h k = ap (λ a. l.linked_iterable slot ds s a plain) (fold-roll-Expr t.Tree t.MaybeTree (CompareOp × t.Tree) (t.Tree × t.Tree) t.tree_step t.maybe_step t.operand_step t.pair_step (e.Unary i op a))
  by_layer (e.Binary i a op b) h k = ap (λ a. l.linked_iterable slot ds s a plain) (fold-roll-Expr t.Tree t.MaybeTree (CompareOp × t.Tree) (t.Tree × t.Tree) t.tree_step t.maybe_step t.operand_step t.pair_step (e.Binary i a op b))
  by_layer (e.Compare i a os) h k = ap (λ a. l.linked_iterable slot ds s a plain) (fold-roll-Expr t.Tree t.MaybeTree (CompareOp × t.Tree) (t.Tree × t.Tree) t.tree_step t.maybe_step t.operand_step t.pair_step (e.Compare i a os))
  by_layer (e.Not i a) h k = ap (λ a. l.linked_iterable slot ds s a plain) (fold-roll-Expr t.Tree t.MaybeTree (CompareOp × t.Tree) (t.Tree × t.Tree) t.tree_step t.maybe_step t.operand_step t.pair_step (e.Not i a))
  by_layer (e.And i a es) h k = ap (λ a. l.linked_iterable slot ds s a plain) (fold-roll-Expr t.Tree t.MaybeTree (CompareOp × t.Tree) (t.Tree × t.Tree) t.tree_step t.maybe_step t.operand_step t.pair_step (e.And i a es))
  by_layer (e.Or i a es) h k = ap (λ a. l.linked_iterable slot ds s a plain) (fold-roll-Expr t.Tree t.MaybeTree (CompareOp × t.Tree) (t.Tree × t.Tree) t.tree_step t.maybe_step t.operand_step t.pair_step (e.Or i a es))
  by_layer (e.Conditional i a b c) h k = ap (λ a. l.linked_iterable slot ds s a plain) (fold-roll-Expr t.Tree t.MaybeTree (CompareOp × t.Tree) (t.Tree × t.Tree) t.tree_step t.maybe_step t.operand_step t.pair_step (e.Conditional i a b c))

  pub no_walk : (x : Expr) → NoCall x → NoMethod x → Plain (t.tree_of x)
  no_walk x h k = subst (λ (y : Expr). Plain (t.tree_of y)) (roll-out-Expr x)
      (by_layer (out-Expr x) (λ i n es comma q. h i n es comma (sym (roll-out-Expr x) ∙ q)) (λ i a w es comma q. k i a w es comma (sym (roll-out-Expr x) ∙ q)))
