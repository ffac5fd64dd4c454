-- What is linked already, and then the rest.
use Rattle.std.proofs.Common.{◌≡◌, ℕ, suc, ◌+◌, List, [], ◌∷◌, ◌++◌, length, map, Result, Ok, Err, sym, ap, ◌∙◌, refl, append_assoc, append-nil}
use Rattle.std.proofs.lemmas.List.{map-append}
use Rattle.tx_tree.specs.declared.expr.Expr.{Expr as ExprNode}
use Rattle.tx_tree.specs.declared.operator.CompareOp.{CompareOp}
use Rattle.tx_tree.specs.Tree.{tree_of, trees}
use Rattle.tx_names.specs.declared.fault.Fault.{Fault}
use Rattle.tx_names.specs.Function.{Expr, Exprs, none, more, Pairs, no_pair, pair, Comparisons, no_operand, operand, Statement, Statements, finish, next, Arms, no_arm, arm}
use Rattle.tx_names.specs.Scope.{number_of}
use Rattle.tx_names.specs.Linked.{◌>>=◌}
use Rattle.tx_names.specs.View.{exprs, pairs, comparisons, statements, arms, Branch}

pub numbers : (es : List ExprNode) → number_of (trees (map tree_of es)) ≡ length es
numbers [] = refl
numbers (e ∷ es) = ap suc (numbers es)

abbrev pub front : List (Expr ℕ) → Exprs ℕ → Exprs ℕ
front [] ys = ys
front (x ∷ xs) ys = more x (front xs ys)

abbrev pub pairs_front : List (Expr ℕ × Expr ℕ) → Pairs ℕ → Pairs ℕ
pairs_front [] ys = ys
pairs_front (x ∷ xs) ys = pair x.0 x.1 (pairs_front xs ys)

abbrev pub operands_front : List (CompareOp × Expr ℕ) → Comparisons ℕ → Comparisons ℕ
operands_front [] ys = ys
operands_front (x ∷ xs) ys = operand x.0 x.1 (operands_front xs ys)

abbrev pub statements_front : List (Statement ℕ) → Statements ℕ → Statements ℕ
statements_front [] ys = ys
statements_front (x ∷ xs) ys = next x (statements_front xs ys)

abbrev pub arms_front : List Branch → Arms ℕ → Arms ℕ
arms_front [] ys = ys
arms_front (x ∷ xs) ys = arm x.0 x.1 (arms_front xs ys)

pub front_end : (xs : List (Expr ℕ)) → front xs none ≡ exprs xs
front_end [] = refl
front_end (x ∷ xs) = ap (λ r. more x r) (front_end xs)

pub pairs_end : (xs : List (Expr ℕ × Expr ℕ)) → pairs_front xs no_pair ≡ pairs xs
pairs_end [] = refl
pairs_end (x ∷ xs) = ap (λ r. pair x.0 x.1 r) (pairs_end xs)

pub operands_end : (xs : List (CompareOp × Expr ℕ)) → operands_front xs no_operand ≡ comparisons xs
operands_end [] = refl
operands_end (x ∷ xs) = ap (λ r. operand x.0 x.1 r) (operands_end xs)

pub statements_end : (xs : List (Statement ℕ)) → statements_front xs finish ≡ statements xs
statements_end [] = refl
statements_end (x ∷ xs) = ap (λ r. next x r) (statements_end xs)

pub arms_end : (xs : List Branch) → arms_front xs no_arm ≡ arms xs
arms_end [] = refl
arms_end (x ∷ xs) = ap (λ r. arm x.0 x.1 r) (arms_end xs)

front_push : (xs : List (Expr ℕ)) (x : Expr ℕ) (ys : Exprs ℕ) → front (xs ++ x ∷ []) ys ≡ front xs (more x ys)
front_push [] x ys = refl
front_push (y ∷ xs) x ys = ap (λ r. more y r) (front_push xs x ys)

pairs_push : (xs : List (Expr ℕ × Expr ℕ)) (x : Expr ℕ × Expr ℕ) (ys : Pairs ℕ) → pairs_front (xs ++ x ∷ []) ys ≡ pairs_front xs (pair x.0 x.1 ys)
pairs_push [] x ys = refl
pairs_push (y ∷ xs) x ys = ap (λ r. pair y.0 y.1 r) (pairs_push xs x ys)

operands_push : (xs : List (CompareOp × Expr ℕ)) (x : CompareOp × Expr ℕ) (ys : Comparisons ℕ) → operands_front (xs ++ x ∷ []) ys ≡ operands_front xs (operand x.0 x.1 ys)
operands_push [] x ys = refl
operands_push (y ∷ xs) x ys = ap (λ r. operand y.0 y.1 r) (operands_push xs x ys)

statements_push : (xs : List (Statement ℕ)) (x : Statement ℕ) (ys : Statements ℕ) → statements_front (xs ++ x ∷ []) ys ≡ statements_front xs (next x ys)
statements_push [] x ys = refl
statements_push (y ∷ xs) x ys = ap (λ r. next y r) (statements_push xs x ys)

arms_push : (xs : List Branch) (x : Branch) (ys : Arms ℕ) → arms_front (xs ++ x ∷ []) ys ≡ arms_front xs (arm x.0 x.1 ys)
arms_push [] x ys = refl
arms_push (y ∷ xs) x ys = ap (λ r. arm y.0 y.1 r) (arms_push xs x ys)

pub ok_same : {A : Type 0} (o : Result A Fault) → (o >>= (λ x. Ok x)) ≡ o
ok_same (Ok x) = refl
ok_same (Err e) = refl

pub more_out : (xs : List (Expr ℕ)) (x : Expr ℕ) (o : Result (Exprs ℕ) Fault) → ((o >>= (λ r. Ok (more x r))) >>= (λ r. Ok (front xs r))) ≡ (o >>= (λ r. Ok (front (xs ++ x ∷ []) r)))
more_out xs x (Err e) = refl
more_out xs x (Ok r) = ap Ok (sym (front_push xs x r))

pub pair_out : (xs : List (Expr ℕ × Expr ℕ)) (x y : Expr ℕ) (o : Result (Pairs ℕ) Fault) → ((o >>= (λ r. Ok (pair x y r))) >>= (λ r. Ok (pairs_front xs r))) ≡ (o >>= (λ r. Ok (pairs_front (xs ++ (x, y) ∷ []) r)))
pair_out xs x y (Err e) = refl
pair_out xs x y (Ok r) = ap Ok (sym (pairs_push xs (x, y) r))

pub operand_out : (xs : List (CompareOp × Expr ℕ)) (op : CompareOp) (x : Expr ℕ) (o : Result (Comparisons ℕ) Fault) → ((o >>= (λ r. Ok (operand op x r))) >>= (λ r. Ok (operands_front xs r))) ≡ (o >>= (λ r. Ok (operands_front (xs ++ (op, x) ∷ []) r)))
operand_out xs op x (Err e) = refl
operand_out xs op x (Ok r) = ap Ok (sym (operands_push xs (op, x) r))

pub next_out : (xs : List (Statement ℕ)) (x : Statement ℕ) (o : Result (Statements ℕ) Fault) → ((o >>= (λ r. Ok (next x r))) >>= (λ r. Ok (statements_front xs r))) ≡ (o >>= (λ r. Ok (statements_front (xs ++ x ∷ []) r)))
next_out xs x (Err e) = refl
next_out xs x (Ok r) = ap Ok (sym (statements_push xs x r))

pub arm_out : (xs : List Branch) (x : Expr ℕ) (ss : Statements ℕ) (o : Result (Arms ℕ) Fault) → ((o >>= (λ r. Ok (arm x ss r))) >>= (λ r. Ok (arms_front xs r))) ≡ (o >>= (λ r. Ok (arms_front (xs ++ (x, ss) ∷ []) r)))
arm_out xs x ss (Err e) = refl
arm_out xs x ss (Ok r) = ap Ok (sym (arms_push xs (x, ss) r))

pub slot_out : (xs : List ℕ) (x : ℕ) (o : Result (List ℕ) Fault) → ((o >>= (λ r. Ok (x ∷ r))) >>= (λ r. Ok (xs ++ r))) ≡ (o >>= (λ r. Ok ((xs ++ x ∷ []) ++ r)))
slot_out xs x (Err e) = refl
slot_out xs x (Ok r) = ap Ok (sym (append_assoc xs (x ∷ []) r))

-- ---- one more is linked, and those behind it are left

pub each_step : (rest : Result (Exprs ℕ) Fault) (o : Result (Expr ℕ) Fault) (xs zs : List (Expr ℕ)) (x : Expr ℕ) → o ≡ Ok x → zs ≡ xs ++ x ∷ []
    → (rest >>= (λ r. Ok (front zs r))) ≡ ((o >>= (λ y. rest >>= (λ ys. Ok (more y ys)))) >>= (λ r. Ok (front xs r)))
each_step rest o xs zs x e h = ap (λ (ys : List (Expr ℕ)). rest >>= (λ r. Ok (front ys r))) h ∙ sym (more_out xs x rest)
    ∙ ap (λ u. (u >>= (λ y. rest >>= (λ ys. Ok (more y ys)))) >>= (λ r. Ok (front xs r))) (sym e)

pub pairs_step : (rest : Result (Pairs ℕ) Fault) (o u : Result (Expr ℕ) Fault) (xs zs : List (Expr ℕ × Expr ℕ)) (x y : Expr ℕ) → o ≡ Ok x → u ≡ Ok y → zs ≡ xs ++ (x, y) ∷ []
    → (rest >>= (λ r. Ok (pairs_front zs r))) ≡ ((o >>= (λ a. u >>= (λ b. rest >>= (λ ys. Ok (pair a b ys))))) >>= (λ r. Ok (pairs_front xs r)))
pairs_step rest o u xs zs x y e f h = ap (λ (ys : List (Expr ℕ × Expr ℕ)). rest >>= (λ r. Ok (pairs_front ys r))) h ∙ sym (pair_out xs x y rest)
    ∙ ap (λ w. (w >>= (λ b. rest >>= (λ ys. Ok (pair x b ys)))) >>= (λ r. Ok (pairs_front xs r))) (sym f)
    ∙ ap (λ w. (w >>= (λ a. u >>= (λ b. rest >>= (λ ys. Ok (pair a b ys))))) >>= (λ r. Ok (pairs_front xs r))) (sym e)

pub operands_step : (rest : Result (Comparisons ℕ) Fault) (o : Result (Expr ℕ) Fault) (op : CompareOp) (xs zs : List (CompareOp × Expr ℕ)) (x : Expr ℕ) → o ≡ Ok x → zs ≡ xs ++ (op, x) ∷ []
    → (rest >>= (λ r. Ok (operands_front zs r))) ≡ ((o >>= (λ y. rest >>= (λ ys. Ok (operand op y ys)))) >>= (λ r. Ok (operands_front xs r)))
operands_step rest o op xs zs x e h = ap (λ (ys : List (CompareOp × Expr ℕ)). rest >>= (λ r. Ok (operands_front ys r))) h ∙ sym (operand_out xs op x rest)
    ∙ ap (λ u. (u >>= (λ y. rest >>= (λ ys. Ok (operand op y ys)))) >>= (λ r. Ok (operands_front xs r))) (sym e)

pub all_step : (rest : Result (Statements ℕ) Fault) (o : Result (Statement ℕ) Fault) (xs zs : List (Statement ℕ)) (x : Statement ℕ) → o ≡ Ok x → zs ≡ xs ++ x ∷ []
    → (rest >>= (λ r. Ok (statements_front zs r))) ≡ ((o >>= (λ y. rest >>= (λ ys. Ok (next y ys)))) >>= (λ r. Ok (statements_front xs r)))
all_step rest o xs zs x e h = ap (λ (ys : List (Statement ℕ)). rest >>= (λ r. Ok (statements_front ys r))) h ∙ sym (next_out xs x rest)
    ∙ ap (λ u. (u >>= (λ y. rest >>= (λ ys. Ok (next y ys)))) >>= (λ r. Ok (statements_front xs r))) (sym e)

pub arms_step : (rest : Result (Arms ℕ) Fault) (o : Result (Expr ℕ) Fault) (u : Result (Statements ℕ) Fault) (xs zs : List Branch) (x : Expr ℕ) (y : Statements ℕ) → o ≡ Ok x → u ≡ Ok y → zs ≡ xs ++ (x, y) ∷ []
    → (rest >>= (λ r. Ok (arms_front zs r))) ≡ ((o >>= (λ a. u >>= (λ b. rest >>= (λ ys. Ok (arm a b ys))))) >>= (λ r. Ok (arms_front xs r)))
arms_step rest o u xs zs x y e f h = ap (λ (ys : List Branch). rest >>= (λ r. Ok (arms_front ys r))) h ∙ sym (arm_out xs x y rest)
    ∙ ap (λ w. (w >>= (λ b. rest >>= (λ ys. Ok (arm x b ys)))) >>= (λ r. Ok (arms_front xs r))) (sym f)
    ∙ ap (λ w. (w >>= (λ a. u >>= (λ b. rest >>= (λ ys. Ok (arm a b ys))))) >>= (λ r. Ok (arms_front xs r))) (sym e)

pub ruleset fronts = (front_end, pairs_end, operands_end, statements_end, arms_end, ok_same, more_out, pair_out, operand_out, next_out, arm_out, slot_out, map-append, numbers, append-nil)
