-- An `if` is linked where its parts are; an `if` of a function.
use Rattle.std.proofs.Common.{◌≡◌, ℕ, List, map, Result, Ok, Err, refl, sym, ap, ◌∙◌}
use Rattle.tx_tree.specs.declared.expr.Expr.{Expr}
use Rattle.tx_tree.specs.declared.stmt.Stmt.{If}
use Rattle.tx_tree.specs.declared.stmt.Suite.{Suite}
use Rattle.tx_tree.specs.declared.stmt.Arm.{Arm}
use Rattle.tx_tree.specs.declared.stmt.Otherwise.{Otherwise}
use Rattle.tx_tree.specs.Tree as t
use Rattle.tx_tree.specs.Tree.{tail, tree_of, statement_of, body_of, arm_of, otherwise_of}
use Rattle.tx_tree.specs.declared.operator.CompareOp.{CompareOp}
use Rattle.tx_names.specs.declared.code.BoundStmt.{BoundStmt, fold-roll-BoundStmt}
use Rattle.tx_names.specs.declared.code.BoundStmt.TheVariants as bound
use Rattle.tx_names.specs.declared.code.BoundBody.TheOpen as c
use Rattle.tx_names.specs.declared.code.BoundArm.{BoundArm}
use Rattle.tx_names.specs.View as v
use Rattle.tx_names.specs.declared.fault.Fault.{Fault}
use Rattle.tx_names.specs.Function as f
use Rattle.tx_names.specs.Function.{Function}
use Rattle.tx_names.specs.Scope.{Text, Scope}
use Rattle.tx_names.specs.Linked as l
use Rattle.tx_names.specs.Linked.{◌>>=◌}
use Rattle.tx_names.proofs.Tails.{if_tree, other_tail, arms_tail}

pub if_is : (xs : List BoundArm) (ss : List BoundStmt) → v.statement_of (bound.If xs ss) ≡ f.branch (v.arms (map v.arm_of xs)) (v.statements (map v.statement_of ss))
if_is xs ss = ap v.statement_of (sym (bound.rolls-If xs ss)) ∙ fold-roll-BoundStmt (f.Body ℕ) (f.Expr ℕ) (f.Maybe ℕ) (f.Statement ℕ) (f.Iterable ℕ) v.Branch (CompareOp × f.Expr ℕ) (f.Expr ℕ × f.Expr ℕ) (f.Function ℕ) v.body_step v.expr_step v.maybe_step v.stmt_step v.iterable_step v.arm_step v.operand_step v.pair_step v.routine_step (c.If xs ss)

module _ (slot : Text → ℕ) (ds : List (Text × Function ℕ)) (scope : Scope) where
  behind : (x : f.Expr ℕ) (body ss : f.Statements ℕ) (o : Result (f.Arms ℕ) Fault) → (o >>= (λ xs. Ok (f.branch (f.arm x body xs) ss))) ≡ ((o >>= (λ xs. Ok (f.arm x body xs))) >>= (λ z. Ok (f.branch z ss)))
  behind x body ss (Ok xs) = refl
  behind x body ss (Err e) = refl

  pub if_linked : (line : ℕ) (test : Expr) (suite : Suite) (arms : List Arm) (other : Otherwise) (x : f.Expr ℕ) (body : f.Statements ℕ) (xs : f.Arms ℕ) (ss : f.Statements ℕ)
      → l.linked slot ds scope (tree_of test) ≡ Ok x → l.does_body slot ds scope (body_of suite) ≡ Ok body
      → (l.arms_of slot ds scope (tail (map arm_of arms) t.nothing) >>= (λ ys. Ok (f.arm x body ys))) ≡ Ok xs → l.other_of slot ds scope (otherwise_of other) ≡ Ok ss
      → l.does slot ds scope (statement_of (If line test suite arms other)) ≡ Ok (f.branch xs ss)
  if_linked line test suite arms other x body xs ss e b h o =
      ap (l.does slot ds scope) (if_tree line test suite arms other)
      ∙ ap (λ r. r >>= (λ y. l.does_body slot ds scope (body_of suite) >>= (λ z. l.arms_of slot ds scope (tail (map arm_of arms) (otherwise_of other)) >>= (λ ys. l.other_of slot ds scope (tail (map arm_of arms) (otherwise_of other)) >>= (λ zs. Ok (f.branch (f.arm y z ys) zs)))))) e
      ∙ ap (λ r. r >>= (λ z. l.arms_of slot ds scope (tail (map arm_of arms) (otherwise_of other)) >>= (λ ys. l.other_of slot ds scope (tail (map arm_of arms) (otherwise_of other)) >>= (λ zs. Ok (f.branch (f.arm x z ys) zs))))) b
      ∙ ap (λ r. r >>= (λ ys. l.other_of slot ds scope (tail (map arm_of arms) (otherwise_of other)) >>= (λ zs. Ok (f.branch (f.arm x body ys) zs)))) (arms_tail slot ds scope (map arm_of arms) other)
      ∙ ap (λ r. l.arms_of slot ds scope (tail (map arm_of arms) t.nothing) >>= (λ ys. r >>= (λ zs. Ok (f.branch (f.arm x body ys) zs)))) (other_tail slot ds scope (map arm_of arms) (otherwise_of other) ∙ o)
      ∙ behind x body ss (l.arms_of slot ds scope (tail (map arm_of arms) t.nothing))
      ∙ ap (λ r. r >>= (λ z. Ok (f.branch z ss))) h
