-- What is said of the arms behind `elif` and of what stands behind them, each alone.
use Rattle.std.proofs.Common.{◌≡◌, ◌+◌, max, ℕ, Bool, true, false, ◌&&◌, List, [], ◌∷◌, map, refl, sym, ap, ◌∙◌, arith}
use Rattle.tx_tree.specs.declared.expr.Expr.{Expr}
use Rattle.tx_tree.specs.declared.stmt.Stmt.{If, fold-roll-Stmt}
use Rattle.tx_tree.specs.declared.stmt.Stmt.TheVariants.{rolls-If}
use Rattle.tx_tree.specs.declared.stmt.Suite.{Suite}
use Rattle.tx_tree.specs.declared.stmt.Arm.{Arm}
use Rattle.tx_tree.specs.declared.stmt.Otherwise.{Otherwise}
use Rattle.tx_tree.specs.declared.stmt.Otherwise.TheOpen as s
use Rattle.tx_tree.specs.Tree.{Tree, Statement, branch, Body, Tail, nothing, tail, tree_of, statement_of, body_of, arm_of, otherwise_of, otherwise_step, statement_step, body_step, arm_step}
use Rattle.tx_tree.specs.Depth.{depth_tail}
use Rattle.tx_tree.specs.Form.{fits, at_test, derived_body, derived_tail, fine, fine_body, fine_tail}
use Rattle.tx_tree.specs.Calls.Count.{count_tail}

and_assoc : (a b c d : Bool) → c ≡ d → (a && (b && c)) ≡ (a && (b && d))
and_assoc a b c d e = ap (λ x. a && (b && x)) e

nested : (a b c d : Bool) → ((a && (b && c)) && d) ≡ (a && (b && (c && d)))
nested true true c d = refl
nested true false c d = refl
nested false b c d = refl

pub depth_arms : (arms : List (Tree × Body)) (other : Tail) → depth_tail (tail arms other) ≡ max (depth_tail (tail arms nothing)) (depth_tail other)
depth_arms [] other = omega arith
depth_arms (arm ∷ arms) other = let e : depth_tail (tail arms other) ≡ max (depth_tail (tail arms nothing)) (depth_tail other) = depth_arms arms other in grind (arith, e)

pub count_arms : (arms : List (Tree × Body)) (other : Tail) → count_tail (tail arms other) ≡ count_tail (tail arms nothing) + count_tail other
count_arms [] other = omega arith
count_arms (arm ∷ arms) other = let e : count_tail (tail arms other) ≡ count_tail (tail arms nothing) + count_tail other = count_arms arms other in grind (arith, e)

pub derived_arms : (arms : List (Tree × Body)) (other : Tail) → derived_tail (tail arms other) ≡ (derived_tail (tail arms nothing) && derived_tail other)
derived_arms [] other = refl
derived_arms (arm ∷ arms) other = and_assoc (fits at_test arm.0) (derived_body arm.1) _ _ (derived_arms arms other) ∙ sym (nested (fits at_test arm.0) (derived_body arm.1) (derived_tail (tail arms nothing)) (derived_tail other))

pub fine_arms : (looped : Bool) (arms : List (Tree × Body)) (other : Tail) → fine_tail looped (tail arms other) ≡ (fine_tail looped (tail arms nothing) && fine_tail looped other)
fine_arms looped [] other = refl
fine_arms looped (arm ∷ arms) other = and_assoc (fine arm.0) (fine_body looped arm.1) _ _ (fine_arms looped arms other) ∙ sym (nested (fine arm.0) (fine_body looped arm.1) (fine_tail looped (tail arms nothing)) (fine_tail looped other))

-- the tree of an `if`
pub if_tree : (l : ℕ) (test : Expr) (suite : Suite) (arms : List Arm) (other : Otherwise) → statement_of (If l test suite arms other) ≡ branch l (tree_of test) (body_of suite) (tail (map arm_of arms) (otherwise_of other))
if_tree l test suite arms other = ap statement_of (sym (rolls-If l test suite arms other)) ∙ fold-roll-Stmt Tail Statement Body (Tree × Body) otherwise_step statement_step body_step arm_step (s.If l test suite arms other)
