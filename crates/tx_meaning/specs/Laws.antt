-- What holds of the definitions alone. Each law is the contract of a function that does nothing, which is named at it.
use Rattle.std.specs.Prelude.{◌≡◌, ℕ, nat_eq, Bool, true, false, List, Some, Result, Ok, IfOk}
use Rattle.std.specs.List.{list_all}
use Rattle.tx_tree.specs.declared.operator.BinaryOp.{BinaryOp}
use Rattle.tx_tree.specs.declared.operator.CompareOp.{CompareOp}
use Rattle.tx_tree.specs.Words.{same_text}
use Rattle.tx_tree.specs.Tree as tree
use Rattle.tx_values.specs.declared.value.Value.{Value, out-Value}
use Rattle.tx_names.specs.declared.role.Role.{Role}
use Rattle.tx_names.specs.declared.fault.Fault.{Fault}
use Rattle.tx_names.specs.Function.{one, Expr, truth, name, paren, call, binary, compare, negation, conjunction, disjunction, conditional, Exprs, none, more, Comparisons, no_operand, operand, present, Statement, return, assign, augment, branch, Statements, finish, next, Arms, no_arm, arm, Body, gives, does, Function}
use Rattle.tx_names.specs.Scope.{Text}
use Rattle.tx_names.specs.Sound.{is_local, sound}
use Rattle.tx_names.specs.Numbered.{numbered, numbered_defs}
use Rattle.tx_names.specs.Bind.{bound_def, bound_lambda}
use Rattle.tx_names.specs.Laws.{named_def, named_lambda}
use Rattle.tx_methods.specs.Laws.{AreValid, IsValid}
use Rattle.tx_meaning.specs.Maps.{Row, Map, no_row, row_of}
use Rattle.tx_meaning.specs.Meaning.{is_list, means, means_each, runs, yields, applied}
use Rattle.tx_meaning.specs.Reads.{reads, reads_body}
use Rattle.tx_meaning.specs.Literals.{literals_are_valid}

-- ---- a function with slots means what the function with names means: `numbered_functions_mean_the_same`

abbrev pub NumberedLaw : Type 0
NumberedLaw = (g : Function Text) → sound same_text g ≡ true → (r : Row) (xs : List Value)
    → applied same_text g r xs ≡ applied nat_eq (numbered g) r xs

-- ---- what `bind` and `bind_lambda` give means what the script says: `bound_functions_mean_the_script`

-- a function with slots is that of a def or a lambda with names, of which the earlier defs are sound, and means the same
abbrev pub MeansTheSame : Result (Function Text) Fault → Function ℕ → Type 0
MeansTheSame named h = (g : Function Text) × (named ≡ Ok g) × ((r : Row) (xs : List Value) → applied same_text g r xs ≡ applied nat_eq h r xs)

pub record BoundLaw : Type 0 where
  pub def : (defs : List (Text × Function Text)) (role : Role) (at : ℕ) (n : Text) (params : List Text) (b : tree.Body) (h : Function ℕ)
      → list_all (λ d. sound same_text d.1) defs ≡ true → bound_def (numbered_defs defs) role at n params b ≡ Ok h → MeansTheSame (named_def defs role at n params b) h
  pub lambda : (defs : List (Text × Function Text)) (role : Role) (at : ℕ) (params : List Text) (a : tree.Tree) (h : Function ℕ)
      → list_all (λ d. sound same_text d.1) defs ≡ true → bound_lambda (numbered_defs defs) role at params a ≡ Ok h → MeansTheSame (named_lambda defs role at params a) h

-- ---- the meaning depends on no name that is not read: `names_that_are_not_read_do_not_matter`

-- two maps give these names the same values
abbrev pub Agree : {N : Type 0} (same : N → N → Bool) → List N → Map same → Map same → Type 0
Agree {N} same ls m q = (n : N) → is_local same ls n ≡ true → m n ≡ q n

pub record ReadsLaw {N : Type 0} (same : N → N → Bool) : Type 0 where
  pub expression : (ls : List N) (a : Expr N) (r : Row) (m q : Map same) → Agree same ls m q → reads same ls a ≡ true
      → means same a r m ≡ means same a r q
  pub body : (ls : List N) (b : Body N) (r : Row) (m q : Map same) → Agree same ls m q → reads_body same ls b ≡ true
      → yields same b r m ≡ yields same b r q

-- ---- a def that is called sees its arguments alone: `defs_see_their_arguments_alone`

pub record CallLaw {N : Type 0} (same : N → N → Bool) : Type 0 where
  -- a call gives what the body gives on the arguments
  pub value : (g : Function N) (es : Exprs N) (r : Row) (m : Map same) (xs : List Value)
      → means_each same es r m ≡ Ok xs → means same (call g es) r m ≡ applied same g no_row xs
  -- whatever the row and the names around the call are
  pub around : (g : Function N) (es : Exprs N) (r s : Row) (m q : Map same)
      → means_each same es r m ≡ means_each same es s q → means same (call g es) r m ≡ means same (call g es) s q

-- ---- the usual rewritings: `rewritings_keep_the_meaning`

-- two expressions, and two statements, that mean the same
abbrev pub Means : {N : Type 0} (same : N → N → Bool) → Expr N → Expr N → Type 0
Means same a b = (r : Row) (m : Map same) → means same a r m ≡ means same b r m

abbrev pub Runs : {N : Type 0} (same : N → N → Bool) → Statement N → Statement N → Type 0
Runs same s t = (r : Row) (m : Map same) → runs same s r m ≡ runs same t r m

pub record Rewritings {N : Type 0} (same : N → N → Bool) : Type 0 where
  pub brackets : (a : Expr N) → Means same (paren a) a
  -- `a and b` is `b if a else a`, `a or b` is `a if a else b`, and `not a` is `False if a else True`
  pub and : (a b : Expr N) → Means same (conjunction a (more b none)) (conditional b a a)
  pub or : (a b : Expr N) → Means same (disjunction a (more b none)) (conditional a a b)
  pub not : (a : Expr N) → Means same (negation a) (conditional (truth false) a (truth true))
  -- `a and b and ..` is `a and (b and ..)`
  pub more_and : (a b : Expr N) (es : Exprs N) → Means same (conjunction a (more b es)) (conjunction a (more (conjunction b es) none))
  pub more_or : (a b : Expr N) (es : Exprs N) → Means same (disjunction a (more b es)) (disjunction a (more (disjunction b es) none))
  -- `not (a and b)` is `not a or not b`
  pub not_and : (a b : Expr N) → Means same (negation (conjunction a (more b none))) (disjunction (negation a) (more (negation b) none))
  pub not_or : (a b : Expr N) → Means same (negation (disjunction a (more b none))) (conjunction (negation a) (more (negation b) none))
  -- `a if t else b` is `b if not t else a`
  pub other_arm : (a t b : Expr N) → Means same (conditional a t b) (conditional b (negation t) a)
  -- `a < b < ..` is `a < b and b < ..`
  pub chain : (a b c : Expr N) (o p : CompareOp) (cs : Comparisons N)
      → Means same (compare a (operand o b (operand p c cs))) (conjunction (compare a (operand o b no_operand)) (more (compare b (operand p c cs)) none))
  -- `if a: .. elif b: .. else: ..` has its second `if` behind `else`
  pub elif : (a b : Expr N) (ss ts other : Statements N) (arms : Arms N)
      → Runs same (branch (arm a ss (arm b ts arms)) other) (branch (arm a ss no_arm) (next (branch (arm b ts arms) other) finish))
  -- `n op= a` is `n = n op a`, where the value of `n` is no list
  pub augmented : (n : N) (op : BinaryOp) (a : Expr N) (r : Row) (m : Map same) (x : Value) → m n ≡ Some x → is_list (out-Value x) ≡ false
      → runs same (augment n op a) r m ≡ runs same (assign (one n) (binary (name n) op a)) r m
  -- a lambda is a def that returns its expression
  pub lambda : (a : Expr N) (r : Row) (m : Map same) → yields same (gives a) r m ≡ yields same (does (next (return (present a)) finish)) r m

-- ---- of a valid row and valid arguments the value is valid, where the literals are: `results_are_valid`

abbrev pub CellsAreValid : Row → Type 0
CellsAreValid r = (column : List ℕ) (x : Value) → r column ≡ Some x → IsValid x

pub record ValidityLaw {N : Type 0} (same : N → N → Bool) : Type 0 where
  pub function : (g : Function N) (r : Row) (xs : List Value) → literals_are_valid g ≡ true → CellsAreValid r → AreValid xs
      → IfOk (applied same g r xs) IsValid
  pub row : (names : List (List ℕ)) (cells : List Value) → AreValid cells → CellsAreValid (row_of names cells)
