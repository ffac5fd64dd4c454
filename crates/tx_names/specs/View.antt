-- A bound function is a function whose names are slots.
use Rattle.std.specs.Prelude.{ℕ, List, [], ◌∷◌}
use Rattle.tx_tree.specs.declared.operator.CompareOp.{CompareOp}
use Rattle.tx_name_set.specs.NameSet.{slots_below}
use Rattle.tx_names.specs.declared.code.BoundTarget.{BoundTarget}
use Rattle.tx_names.specs.declared.code.BoundTarget.TheVariants as t
use Rattle.tx_names.specs.declared.code.BoundBody.{BoundBody, fold-BoundBody}
use Rattle.tx_names.specs.declared.code.BoundBody.TheOpen.{BoundBody-F, BoundExpr-F, BoundMaybe-F, BoundStmt-F, Iterable-F, BoundArm-F, BoundOperand-F, BoundPair-F, Routine-F}
use Rattle.tx_names.specs.declared.code.BoundBody.TheOpen as c
use Rattle.tx_names.specs.declared.code.BoundExpr.{BoundExpr, fold-BoundExpr}
use Rattle.tx_names.specs.declared.code.BoundMaybe.{BoundMaybe, fold-BoundMaybe}
use Rattle.tx_names.specs.declared.code.BoundStmt.{BoundStmt, fold-BoundStmt}
use Rattle.tx_names.specs.declared.code.Iterable as i
use Rattle.tx_names.specs.declared.code.Iterable.{fold-Iterable}
use Rattle.tx_names.specs.declared.code.BoundArm.{BoundArm, fold-BoundArm}
use Rattle.tx_names.specs.declared.code.BoundOperand.{BoundOperand, fold-BoundOperand}
use Rattle.tx_names.specs.declared.code.BoundPair.{BoundPair, fold-BoundPair}
use Rattle.tx_names.specs.declared.code.Routine.{Routine, fold-Routine}
use Rattle.tx_names.specs.Function.{Target, one, several, Expr, nil, truth, int, text, name, cell, paren, tuple, list, dict, comprehension, call, builtin, method, index, slice, unary, binary, compare, negation, conjunction, disjunction, conditional, Exprs, none, more, Pairs, no_pair, pair, Comparisons, no_operand, operand, Maybe, absent, present, Iterable, value, walk, view, Statement, pass, break, continue, return, assign, augment, express, branch, repeat, Statements, finish, next, Arms, no_arm, arm, Body, gives, does, Function, function}

-- ---- lists of parts

abbrev pub exprs : List (Expr ℕ) → Exprs ℕ
exprs [] = none
exprs (a ∷ rest) = more a (exprs rest)

abbrev pub pairs : List (Expr ℕ × Expr ℕ) → Pairs ℕ
pairs [] = no_pair
pairs (p ∷ rest) = pair p.0 p.1 (pairs rest)

abbrev pub comparisons : List (CompareOp × Expr ℕ) → Comparisons ℕ
comparisons [] = no_operand
comparisons (p ∷ rest) = operand p.0 p.1 (comparisons rest)

abbrev pub statements : List (Statement ℕ) → Statements ℕ
statements [] = finish
statements (s ∷ rest) = next s (statements rest)

abbrev pub Branch : Type 0
Branch = Expr ℕ × Statements ℕ

abbrev pub arms : List Branch → Arms ℕ
arms [] = no_arm
arms (p ∷ rest) = arm p.0 p.1 (arms rest)

abbrev pub target_of : BoundTarget → Target ℕ
target_of (t.One slot) = one slot
target_of (t.Several slots) = several slots

-- ---- one step a type, over the parts

abbrev pub Layer : (Type 0 → Type 0 → Type 0 → Type 0 → Type 0 → Type 0 → Type 0 → Type 0 → Type 0 → Type 0) → Type 0
Layer F = F (Body ℕ) (Expr ℕ) (Maybe ℕ) (Statement ℕ) (Iterable ℕ) Branch (CompareOp × Expr ℕ) (Expr ℕ × Expr ℕ) (Function ℕ)

abbrev pub body_step : Layer BoundBody-F → Body ℕ
body_step (c.Gives a) = gives a
body_step (c.Does ss) = does (statements ss)

abbrev pub expr_step : Layer BoundExpr-F → Expr ℕ
expr_step c.Nil = nil
expr_step (c.Truth b) = truth b
expr_step (c.Int n) = int n
expr_step (c.Text s) = text s
expr_step (c.Local slot) = name slot
expr_step (c.Cell column) = cell column
expr_step (c.Paren a) = paren a
expr_step (c.Tuple es) = tuple (exprs es)
expr_step (c.List es) = list (exprs es)
expr_step (c.Dict ps) = dict (pairs ps)
expr_step (c.Comprehension a u i w) = comprehension a (target_of u) i w
expr_step (c.Call f es) = call f.value (exprs es)
expr_step (c.Builtin b es) = builtin b (exprs es)
expr_step (c.Method a m es) = method a m (exprs es)
expr_step (c.Index a b) = index a b
expr_step (c.Slice a b d) = slice a b d
expr_step (c.Unary op a) = unary op a
expr_step (c.Binary a op b) = binary a op b
expr_step (c.Compare a os) = compare a (comparisons os)
expr_step (c.Not a) = negation a
expr_step (c.And a es) = conjunction a (exprs es)
expr_step (c.Or a es) = disjunction a (exprs es)
expr_step (c.Conditional a b d) = conditional a b d

abbrev pub maybe_step : Layer BoundMaybe-F → Maybe ℕ
maybe_step c.Absent = absent
maybe_step (c.Present a) = present a

abbrev pub stmt_step : Layer BoundStmt-F → Statement ℕ
stmt_step c.Pass = pass
stmt_step c.Break = break
stmt_step c.Continue = continue
stmt_step (c.Return a) = return a
stmt_step (c.Assign u a) = assign (target_of u) a
stmt_step (c.Augment slot op a) = augment slot op a
stmt_step (c.Express a) = express a
stmt_step (c.If as' ss) = branch (arms as') (statements ss)
stmt_step (c.For u i ss) = repeat (target_of u) i (statements ss)

abbrev pub iterable_step : Layer Iterable-F → Iterable ℕ
iterable_step (c.Value a) = value a
iterable_step (c.Walk w es) = walk w (exprs es)
iterable_step (c.View a w) = view a w

abbrev pub arm_step : Layer BoundArm-F → Branch
arm_step p = (p.test, statements p.body)

abbrev pub operand_step : Layer BoundOperand-F → CompareOp × Expr ℕ
operand_step p = (p.op, p.right)

abbrev pub pair_step : Layer BoundPair-F → Expr ℕ × Expr ℕ
pair_step p = (p.key, p.value)

abbrev pub routine_step : Layer Routine-F → Function ℕ
routine_step f = function f.role f.params (slots_below f.slots) f.body

-- ---- the whole

abbrev pub body_of : BoundBody → Body ℕ
body_of = fold-BoundBody (Body ℕ) (Expr ℕ) (Maybe ℕ) (Statement ℕ) (Iterable ℕ) Branch (CompareOp × Expr ℕ) (Expr ℕ × Expr ℕ) (Function ℕ) body_step expr_step maybe_step stmt_step iterable_step arm_step operand_step pair_step routine_step

abbrev pub expr_of : BoundExpr → Expr ℕ
expr_of = fold-BoundExpr (Body ℕ) (Expr ℕ) (Maybe ℕ) (Statement ℕ) (Iterable ℕ) Branch (CompareOp × Expr ℕ) (Expr ℕ × Expr ℕ) (Function ℕ) body_step expr_step maybe_step stmt_step iterable_step arm_step operand_step pair_step routine_step

abbrev pub maybe_of : BoundMaybe → Maybe ℕ
maybe_of = fold-BoundMaybe (Body ℕ) (Expr ℕ) (Maybe ℕ) (Statement ℕ) (Iterable ℕ) Branch (CompareOp × Expr ℕ) (Expr ℕ × Expr ℕ) (Function ℕ) body_step expr_step maybe_step stmt_step iterable_step arm_step operand_step pair_step routine_step

abbrev pub statement_of : BoundStmt → Statement ℕ
statement_of = fold-BoundStmt (Body ℕ) (Expr ℕ) (Maybe ℕ) (Statement ℕ) (Iterable ℕ) Branch (CompareOp × Expr ℕ) (Expr ℕ × Expr ℕ) (Function ℕ) body_step expr_step maybe_step stmt_step iterable_step arm_step operand_step pair_step routine_step

abbrev pub iterable_of : i.Iterable → Iterable ℕ
iterable_of = fold-Iterable (Body ℕ) (Expr ℕ) (Maybe ℕ) (Statement ℕ) (Iterable ℕ) Branch (CompareOp × Expr ℕ) (Expr ℕ × Expr ℕ) (Function ℕ) body_step expr_step maybe_step stmt_step iterable_step arm_step operand_step pair_step routine_step

abbrev pub arm_of : BoundArm → Branch
arm_of = fold-BoundArm (Body ℕ) (Expr ℕ) (Maybe ℕ) (Statement ℕ) (Iterable ℕ) Branch (CompareOp × Expr ℕ) (Expr ℕ × Expr ℕ) (Function ℕ) body_step expr_step maybe_step stmt_step iterable_step arm_step operand_step pair_step routine_step

abbrev pub operand_of : BoundOperand → CompareOp × Expr ℕ
operand_of = fold-BoundOperand (Body ℕ) (Expr ℕ) (Maybe ℕ) (Statement ℕ) (Iterable ℕ) Branch (CompareOp × Expr ℕ) (Expr ℕ × Expr ℕ) (Function ℕ) body_step expr_step maybe_step stmt_step iterable_step arm_step operand_step pair_step routine_step

abbrev pub pair_of : BoundPair → Expr ℕ × Expr ℕ
pair_of = fold-BoundPair (Body ℕ) (Expr ℕ) (Maybe ℕ) (Statement ℕ) (Iterable ℕ) Branch (CompareOp × Expr ℕ) (Expr ℕ × Expr ℕ) (Function ℕ) body_step expr_step maybe_step stmt_step iterable_step arm_step operand_step pair_step routine_step

abbrev pub routine_of : Routine → Function ℕ
routine_of = fold-Routine (Body ℕ) (Expr ℕ) (Maybe ℕ) (Statement ℕ) (Iterable ℕ) Branch (CompareOp × Expr ℕ) (Expr ℕ × Expr ℕ) (Function ℕ) body_step expr_step maybe_step stmt_step iterable_step arm_step operand_step pair_step routine_step
