-- An `if` of the code, and what stands behind its first suite; a `for` of the code.
use Rattle.std.proofs.Common.{◌≡◌, ℕ, List, [], ◌∷◌, map, Ok, refl, sym, ap, ◌∙◌}
use Rattle.tx_tree.specs.declared.expr.Expr.{Expr}
use Rattle.tx_tree.specs.declared.stmt.Stmt.{If, For, fold-roll-Stmt}
use Rattle.tx_tree.specs.declared.stmt.Stmt.TheVariants.{rolls-If, rolls-For}
use Rattle.tx_tree.specs.declared.stmt.Suite.{Suite}
use Rattle.tx_tree.specs.declared.stmt.Arm.{Arm}
use Rattle.tx_tree.specs.declared.target.Target.{Target}
use Rattle.tx_tree.specs.declared.stmt.Otherwise.{Otherwise, fold_out-Otherwise}
use Rattle.tx_tree.specs.declared.stmt.Otherwise.TheOpen as s
use Rattle.tx_tree.specs.Tree as t
use Rattle.tx_tree.specs.Tree.{Tree, Statement, branch, repeat, Body, Tail, tail, tree_of, statement_of, body_of, arm_of, otherwise_of, StmtLayer, otherwise_step, statement_step, body_step, arm_step}
use Rattle.tx_names.specs.Function as f
use Rattle.tx_names.specs.Function.{Function}
use Rattle.tx_names.specs.Scope.{Text, Scope}
use Rattle.tx_names.specs.Linked as l
use Rattle.tx_names.specs.Linked.{◌>>=◌}

pub if_tree : (line : ℕ) (test : Expr) (suite : Suite) (arms : List Arm) (other : Otherwise) → statement_of (If line test suite arms other) ≡ branch line (tree_of test) (body_of suite) (tail (map arm_of arms) (otherwise_of other))
if_tree line test suite arms other = ap statement_of (sym (rolls-If line test suite arms other)) ∙ fold-roll-Stmt Tail Statement Body (Tree × Body) otherwise_step statement_step body_step arm_step (s.If line test suite arms other)

pub for_tree : (line : ℕ) (target : Target) (iterable : Expr) (suite : Suite) → statement_of (For line target iterable suite) ≡ repeat line target (tree_of iterable) (body_of suite)
for_tree line target iterable suite = ap statement_of (sym (rolls-For line target iterable suite)) ∙ fold-roll-Stmt Tail Statement Body (Tree × Body) otherwise_step statement_step body_step arm_step (s.For line target iterable suite)

module _ (slot : Text → ℕ) (ds : List (Text × Function ℕ)) (scope : Scope) where
  pub other_tail : (arms : List (Tree × Body)) (other : Tail) → l.other_of slot ds scope (tail arms other) ≡ l.other_of slot ds scope other
  other_tail [] other = refl
  other_tail (arm ∷ arms) other = other_tail arms other

  arms_tail_by : (arms : List (Tree × Body)) (other : Tail) → l.arms_of slot ds scope other ≡ Ok f.no_arm → l.arms_of slot ds scope (tail arms other) ≡ l.arms_of slot ds scope (tail arms t.nothing)
  arms_tail_by [] other e = e
  arms_tail_by (arm ∷ arms) other e = ap (λ r. l.linked slot ds scope arm.0 >>= (λ x. l.does_body slot ds scope arm.1 >>= (λ ss. r >>= (λ xs. Ok (f.arm x ss xs))))) (arms_tail_by arms other e)

  no_arms : (x : StmtLayer s.Otherwise-F) → l.arms_of slot ds scope (otherwise_step x) ≡ Ok f.no_arm
  no_arms s.Absent = refl
  no_arms (s.Present c) = refl

  pub arms_tail : (arms : List (Tree × Body)) (other : Otherwise) → l.arms_of slot ds scope (tail arms (otherwise_of other)) ≡ l.arms_of slot ds scope (tail arms t.nothing)
  arms_tail arms other = arms_tail_by arms (otherwise_of other) (ap (l.arms_of slot ds scope) (fold_out-Otherwise Tail Statement Body (Tree × Body) otherwise_step statement_step body_step arm_step other) ∙ no_arms _)

pub ruleset tails = (if_tree, other_tail, arms_tail)
