-- The nodes that are structs: what they are in the tree of a script, and in a function.
use Rattle.std.proofs.Common.{◌≡◌, ℕ, List, map, sym, ap, ◌∙◌}
use Rattle.tx_tree.specs.declared.operator.CompareOp.{CompareOp}
use Rattle.tx_tree.specs.declared.expr.Pair.{Pair, fold_out-Pair}
use Rattle.tx_tree.specs.declared.expr.Operand.{Operand, fold_out-Operand}
use Rattle.tx_tree.specs.declared.stmt.Arm.{Arm, fold_out-Arm}
use Rattle.tx_tree.specs.Tree as t
use Rattle.tx_name_set.specs.NameSet.{slots_below}
use Rattle.tx_names.specs.declared.code.BoundBody.{BoundBody, Gives, Does, fold-roll-BoundBody}
use Rattle.tx_names.specs.declared.code.BoundBody.TheVariants.{rolls-Gives, rolls-Does}
use Rattle.tx_names.specs.declared.code.BoundBody.TheOpen as c
use Rattle.tx_names.specs.declared.code.BoundBody.TheOpen.{BoundPair-F, BoundOperand-F, BoundArm-F}
use Rattle.tx_names.specs.declared.code.BoundMaybe.{BoundMaybe}
use Rattle.tx_names.specs.declared.code.Iterable as i
use Rattle.tx_names.specs.declared.code.BoundExpr.{BoundExpr}
use Rattle.tx_names.specs.declared.code.BoundStmt.{BoundStmt}
use Rattle.tx_names.specs.declared.code.BoundPair.{BoundPair, roll-BoundPair, fold-roll-BoundPair}
use Rattle.tx_names.specs.declared.code.BoundOperand.{BoundOperand, roll-BoundOperand, fold-roll-BoundOperand}
use Rattle.tx_names.specs.declared.code.BoundArm.{BoundArm, roll-BoundArm, fold-roll-BoundArm}
use Rattle.tx_names.specs.declared.code.Routine.{Routine, fold_out-Routine}
use Rattle.tx_names.specs.Function.{Expr, Maybe, Iterable, Statement, Body, gives, does, Function, function}
use Rattle.tx_names.specs.View.{statements, Branch, body_step, expr_step, maybe_step, stmt_step, iterable_step, arm_step, operand_step, pair_step, routine_step, body_of, expr_of, statement_of, arm_of, operand_of, pair_of, routine_of}

-- ---- in the tree of a script

pub pair_tree : (x : Pair) → t.pair_of x ≡ (t.tree_of x.key, t.tree_of x.value)
pair_tree = fold_out-Pair t.Tree t.MaybeTree (CompareOp × t.Tree) (t.Tree × t.Tree) t.tree_step t.maybe_step t.operand_step t.pair_step

pub operand_tree : (x : Operand) → t.operand_of x ≡ (x.op, t.tree_of x.right)
operand_tree = fold_out-Operand t.Tree t.MaybeTree (CompareOp × t.Tree) (t.Tree × t.Tree) t.tree_step t.maybe_step t.operand_step t.pair_step

pub arm_tree : (x : Arm) → t.arm_of x ≡ (t.tree_of x.test, t.body_of x.suite)
arm_tree = fold_out-Arm t.Tail t.Statement t.Body (t.Tree × t.Body) t.otherwise_step t.statement_step t.body_step t.arm_step

-- ---- in a function

-- what the parts of a node are
abbrev Open : (Type 0 → Type 0 → Type 0 → Type 0 → Type 0 → Type 0 → Type 0 → Type 0 → Type 0 → Type 0) → Type 0
Open F = F BoundBody BoundExpr BoundMaybe BoundStmt i.Iterable BoundArm BoundOperand BoundPair Routine

pub made_pair : (x : Open BoundPair-F) → pair_of (roll-BoundPair x) ≡ (expr_of x.key, expr_of x.value)
made_pair = fold-roll-BoundPair (Body ℕ) (Expr ℕ) (Maybe ℕ) (Statement ℕ) (Iterable ℕ) Branch (CompareOp × Expr ℕ) (Expr ℕ × Expr ℕ) (Function ℕ) body_step expr_step maybe_step stmt_step iterable_step arm_step operand_step pair_step routine_step

pub made_operand : (x : Open BoundOperand-F) → operand_of (roll-BoundOperand x) ≡ (x.op, expr_of x.right)
made_operand = fold-roll-BoundOperand (Body ℕ) (Expr ℕ) (Maybe ℕ) (Statement ℕ) (Iterable ℕ) Branch (CompareOp × Expr ℕ) (Expr ℕ × Expr ℕ) (Function ℕ) body_step expr_step maybe_step stmt_step iterable_step arm_step operand_step pair_step routine_step

pub made_arm : (x : Open BoundArm-F) → arm_of (roll-BoundArm x) ≡ (expr_of x.test, statements (map statement_of x.body))
made_arm = fold-roll-BoundArm (Body ℕ) (Expr ℕ) (Maybe ℕ) (Statement ℕ) (Iterable ℕ) Branch (CompareOp × Expr ℕ) (Expr ℕ × Expr ℕ) (Function ℕ) body_step expr_step maybe_step stmt_step iterable_step arm_step operand_step pair_step routine_step

pub routine_is : (x : Routine) → routine_of x ≡ function x.role x.params (slots_below x.slots) (body_of x.body)
routine_is = fold_out-Routine (Body ℕ) (Expr ℕ) (Maybe ℕ) (Statement ℕ) (Iterable ℕ) Branch (CompareOp × Expr ℕ) (Expr ℕ × Expr ℕ) (Function ℕ) body_step expr_step maybe_step stmt_step iterable_step arm_step operand_step pair_step routine_step

pub gives_is : (x : BoundExpr) → body_of (Gives x) ≡ gives (expr_of x)
gives_is x = ap body_of (sym (rolls-Gives x)) ∙ fold-roll-BoundBody (Body ℕ) (Expr ℕ) (Maybe ℕ) (Statement ℕ) (Iterable ℕ) Branch (CompareOp × Expr ℕ) (Expr ℕ × Expr ℕ) (Function ℕ) body_step expr_step maybe_step stmt_step iterable_step arm_step operand_step pair_step routine_step (c.Gives x)

pub does_is : (xs : List BoundStmt) → body_of (Does xs) ≡ does (statements (map statement_of xs))
does_is xs = ap body_of (sym (rolls-Does xs)) ∙ fold-roll-BoundBody (Body ℕ) (Expr ℕ) (Maybe ℕ) (Statement ℕ) (Iterable ℕ) Branch (CompareOp × Expr ℕ) (Expr ℕ × Expr ℕ) (Function ℕ) body_step expr_step maybe_step stmt_step iterable_step arm_step operand_step pair_step routine_step (c.Does xs)

pub ruleset nodes = (routine_is, gives_is, does_is)
