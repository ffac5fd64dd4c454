-- What the words of a tree name (Python Language Reference, "Naming and binding"): the function of a def or of a lambda with the
-- defs before it, or the first fault in the order of the tokens. `K` is what names become: `slot` tells what stands for a name,
-- in a named function the name itself, in a bound one its place among the names.
use Rattle.std.specs.Prelude.{ℕ, ◌||◌, ◌==◌, if◌then◌else◌, List, [], ◌∷◌, length, map, Option, Some, None, is_some, Result, Ok, Err}
use Rattle.tx_tree.specs.declared.target.Word.{Word}
use Rattle.tx_tree.specs.declared.target.Target as declared
use Rattle.tx_tree.specs.declared.target.Target.TheVariants as target
use Rattle.tx_tree.specs.declared.function.Method.{Method}
use Rattle.tx_tree.specs.declared.function.Builtin.{Builtin}
use Rattle.tx_tree.specs.declared.function.Walk.{Walk}
use Rattle.tx_tree.specs.Words.{same_text}
use Rattle.tx_tree.specs.Tree as t
use Rattle.tx_tree.specs.Tree.{Tree, Trees, PairTrees, Operands, MaybeTree, Body, Tail}
use Rattle.tx_name_set.specs.NameSet.{is_in}
use Rattle.tx_names.specs.declared.role.Role.{Role}
use Rattle.tx_names.specs.declared.role.Role.TheVariants.{Plain}
use Rattle.tx_names.specs.declared.fault.Fault.{Fault}
use Rattle.tx_names.specs.declared.fault.FaultKind.TheVariants.{Recursive, Unknown, Arity, RowUse}
use Rattle.tx_tree.specs.Takes.{Takes, exactly, allows, builtin_takes, method_takes, walk_takes}
use Rattle.tx_names.specs.Named.{builtin_at, method_at, walk_function_at, view_at}
use Rattle.tx_names.specs.Function as f
use Rattle.tx_names.specs.Function.{Target, one, several, Function, function, params_of}
use Rattle.tx_names.specs.Scope.{Text, number_of, Scope, is_name_of, is_variable, within, role_size, plain_params, scope_of_def, scope_of_lambda}
use Rattle.tx_names.specs.Faults.{fault, cell_in}

-- goes on with what was found; a fault is the answer
infixl 10 ◌>>=◌
abbrev pub ◌>>=◌ : {A B : Type 0} → Result A Fault → (A → Result B Fault) → Result B Fault
Ok a >>= g = g a
Err e >>= g = Err e

-- what takes so many arguments
abbrev pub counted : {A : Type 0} → Takes → ℕ → ℕ → A → Result A Fault
counted takes l count x = if allows takes count then Ok x else Err (fault Arity l)

-- ---- what a word names

-- what a called name stands for
pub data Callee (K : Type 0) : Type 0 where
  builtin_function : Builtin → Callee K
  earlier_def : Function K → Callee K

-- a call of it
abbrev pub call_of : {K : Type 0} → Callee K → f.Exprs K → f.Expr K
call_of (builtin_function b) es = f.builtin b es
call_of (earlier_def g) es = f.call g es

abbrev pub def_named : {K : Type 0} → List (Text × Function K) → Text → Option (Function K)
def_named [] n = None
def_named (d ∷ ds) n = if same_text d.0 n then Some d.1 else def_named ds n

-- a def has as many parameters as it is given arguments
abbrev pub by_def : {K : Type 0} → ℕ → ℕ → Option (Function K) → Result (Callee K) Fault
by_def l count None = Err (fault Unknown l)
by_def l count (Some g) = counted (exactly (length (params_of g))) l count (earlier_def g)

abbrev pub by_builtin : {K : Type 0} → ℕ → ℕ → Option Builtin → Result (Callee K) Fault → Result (Callee K) Fault
by_builtin l count None other = other
by_builtin l count (Some b) other = counted (builtin_takes b) l count (builtin_function b)

abbrev pub by_method : ℕ → ℕ → Option Method → Result Method Fault
by_method l count None = Err (fault Unknown l)
by_method l count (Some m) = counted (method_takes m) l count m

-- the walk that is called here as an iterable: the word of no variable, and not the def's own name
abbrev pub walk_in : Scope → Text → Option Walk
walk_in s n = if is_name_of s.own n || is_variable s n then None else walk_function_at n

-- ---- iterables: a walk or a view, or the value of the expression

abbrev pub as_value : {K : Type 0} → Result (f.Expr K) Fault → Result (f.Iterable K) Fault
as_value plain = do x ← plain; Ok (f.value x)

abbrev pub by_walk : {K : Type 0} → Option Walk → ℕ → ℕ → Result (f.Exprs K) Fault → Result (f.Expr K) Fault → Result (f.Iterable K) Fault
by_walk None l count args plain = as_value plain
by_walk (Some w) l count args plain = do v ← counted (walk_takes w) l count w; xs ← args; Ok (f.walk v xs)

abbrev pub by_view : {K : Type 0} → Option Walk → ℕ → ℕ → Result (f.Expr K) Fault → Result (f.Exprs K) Fault → Result (f.Expr K) Fault → Result (f.Iterable K) Fault
by_view None l count receiver args plain = as_value plain
by_view (Some w) l count receiver args plain = do x ← receiver; v ← counted (walk_takes w) l count w; xs ← args; Ok (f.view x v)

-- ---- indexes: the cell of a row, or an item

abbrev pub by_cell : {K : Type 0} → Option Text → Result (f.Expr K) Fault → Result (f.Expr K) Fault
by_cell None other = other
by_cell (Some c) other = Ok (f.cell c)

module _ {K : Type 0} (slot : Text → K) (defs : List (Text × Function K)) where
  -- a name that is read
  abbrev pub read : Scope → ℕ → Text → Result (f.Expr K) Fault
  read s l n = if is_name_of s.row n then Err (fault RowUse l) else if is_in s.locals n then Ok (f.name (slot n)) else Err (fault Unknown l)

  -- a name that is assigned to
  abbrev pub assigned_slot : Scope → ℕ → Text → Result K Fault
  assigned_slot s l n = if is_name_of s.row n then Err (fault RowUse l) else Ok (slot n)

  abbrev pub assigned_slots : Scope → List Word → Result (List K) Fault
  assigned_slots s [] = Ok []
  assigned_slots s (w ∷ ws) = do k ← assigned_slot s w.line w.text; ks ← assigned_slots s ws; Ok (k ∷ ks)

  abbrev pub linked_target : Scope → declared.Target → Result (Target K) Fault
  linked_target s (target.Name w) = do k ← assigned_slot s w.line w.text; Ok (one k)
  linked_target s (target.Names ws comma) = do ks ← assigned_slots s ws; Ok (several ks)
  linked_target s (target.Bracketed l ws comma) = do ks ← assigned_slots s ws; Ok (several ks)

  -- a name that is called: not the def's own, no variable, but a built-in function or an earlier def
  abbrev pub called : Scope → ℕ → Text → ℕ → Result (Callee K) Fault
  called s l n count =
      if is_name_of s.own n then Err (fault Recursive l)
      else if is_variable s n then Err (fault Unknown l)
      else by_builtin l count (builtin_at n) (if is_some (walk_function_at n) then Err (fault Unknown l) else by_def l count (def_named defs n))

  abbrev mutual
    pub linked : Scope → Tree → Result (f.Expr K) Fault
    linked s (t.nil l) = Ok f.nil
    linked s (t.truth l b) = Ok (f.truth b)
    linked s (t.int l n) = Ok (f.int n)
    linked s (t.text l x) = Ok (f.text x)
    linked s (t.name l n) = read s l n
    linked s (t.paren l a) = do x ← linked s a; Ok (f.paren x)
    linked s (t.tuple l es comma) = do xs ← linked_each s es; Ok (f.tuple xs)
    linked s (t.bare_tuple l es comma) = do xs ← linked_each s es; Ok (f.tuple xs)
    linked s (t.list l es comma) = do xs ← linked_each s es; Ok (f.list xs)
    linked s (t.dict l ps comma) = do xs ← linked_pairs s ps; Ok (f.dict xs)
    linked s (t.comprehension l a u i c) = do
      element ← linked (within s u) a
      place ← linked_target s u
      items ← linked_iterable s i (linked s i)
      wanted ← linked_maybe (within s u) c
      Ok (f.comprehension element place items wanted)
    linked s (t.call l n es comma) = do callee ← called s l n (number_of es); xs ← linked_each s es; Ok (call_of callee xs)
    linked s (t.method l a w es comma) = do
      x ← linked s a
      m ← by_method w.line (number_of es) (method_at w.text)
      xs ← linked_each s es
      Ok (f.method x m xs)
    linked s (t.index l a i) = by_cell (cell_in s.row a i) (do x ← linked s a; y ← linked s i; Ok (f.index x y))
    linked s (t.slice l a i j) = do x ← linked s a; y ← linked_maybe s i; z ← linked_maybe s j; Ok (f.slice x y z)
    linked s (t.unary l op a) = do x ← linked s a; Ok (f.unary op x)
    linked s (t.binary l a op b) = do x ← linked s a; y ← linked s b; Ok (f.binary x op y)
    linked s (t.compare l a os) = do x ← linked s a; ys ← linked_operands s os; Ok (f.compare x ys)
    linked s (t.negation l a) = do x ← linked s a; Ok (f.negation x)
    linked s (t.conjunction l a es) = do x ← linked s a; xs ← linked_each s es; Ok (f.conjunction x xs)
    linked s (t.disjunction l a es) = do x ← linked s a; xs ← linked_each s es; Ok (f.disjunction x xs)
    linked s (t.conditional l a t b) = do x ← linked s a; y ← linked s t; z ← linked s b; Ok (f.conditional x y z)

    pub linked_each : Scope → Trees → Result (f.Exprs K) Fault
    linked_each s t.none = Ok f.none
    linked_each s (t.more a es) = do x ← linked s a; xs ← linked_each s es; Ok (f.more x xs)

    pub linked_pairs : Scope → PairTrees → Result (f.Pairs K) Fault
    linked_pairs s t.no_pair = Ok f.no_pair
    linked_pairs s (t.pair a b ps) = do x ← linked s a; y ← linked s b; xs ← linked_pairs s ps; Ok (f.pair x y xs)

    pub linked_operands : Scope → Operands → Result (f.Comparisons K) Fault
    linked_operands s t.no_operand = Ok f.no_operand
    linked_operands s (t.operand op a os) = do x ← linked s a; xs ← linked_operands s os; Ok (f.operand op x xs)

    pub linked_maybe : Scope → MaybeTree → Result (f.Maybe K) Fault
    linked_maybe s t.absent = Ok f.absent
    linked_maybe s (t.present a) = do x ← linked s a; Ok (f.present x)

    -- the iterable of a `for` or of a comprehension; `plain` is what it gives as an expression
    pub linked_iterable : Scope → Tree → Result (f.Expr K) Fault → Result (f.Iterable K) Fault
    linked_iterable s (t.call l n es comma) plain = by_walk (walk_in s n) l (number_of es) (linked_each s es) plain
    linked_iterable s (t.method l a w es comma) plain = by_view (view_at w.text) w.line (number_of es) (linked s a) (linked_each s es) plain
    linked_iterable s _ plain = as_value plain

  -- ---- statements

  abbrev mutual
    pub does : Scope → t.Statement → Result (f.Statement K) Fault
    does s (t.pass l) = Ok f.pass
    does s (t.break l) = Ok f.break
    does s (t.continue l) = Ok f.continue
    does s (t.return l a) = do x ← linked_maybe s a; Ok (f.return x)
    does s (t.assign l u a) = do place ← linked_target s u; x ← linked s a; Ok (f.assign place x)
    does s (t.augment l n op a) = do k ← assigned_slot s l n; x ← linked s a; Ok (f.augment k op x)
    does s (t.express l a) = do x ← linked s a; Ok (f.express x)
    does s (t.branch l a b tail) = do
      x ← linked s a
      body ← does_body s b
      arms ← arms_of s tail
      other ← other_of s tail
      Ok (f.branch (f.arm x body arms) other)
    does s (t.repeat l u i b) = do
      place ← linked_target s u
      items ← linked_iterable s i (linked s i)
      body ← does_body s b
      Ok (f.repeat place items body)

    pub does_body : Scope → Body → Result (f.Statements K) Fault
    does_body s (t.line a) = do x ← does s a; Ok (f.next x f.finish)
    does_body s (t.indented ss) = does_all s ss

    pub does_all : Scope → t.Statements → Result (f.Statements K) Fault
    does_all s t.finish = Ok f.finish
    does_all s (t.next a ss) = do x ← does s a; xs ← does_all s ss; Ok (f.next x xs)

    -- the arms behind `elif`, and what stands behind `else`
    pub arms_of : Scope → Tail → Result (f.Arms K) Fault
    arms_of s t.nothing = Ok f.no_arm
    arms_of s (t.otherwise b) = Ok f.no_arm
    arms_of s (t.elif a b tail) = do x ← linked s a; body ← does_body s b; xs ← arms_of s tail; Ok (f.arm x body xs)

    pub other_of : Scope → Tail → Result (f.Statements K) Fault
    other_of s t.nothing = Ok f.finish
    other_of s (t.otherwise b) = does_body s b
    other_of s (t.elif a b tail) = other_of s tail

  -- ---- functions, which an operator uses in a role; `at` is the line of the operator's argument

  -- as many parameters as the role has
  abbrev pub has_params : {A : Type 0} → Role → ℕ → List Text → Result A Fault → Result A Fault
  has_params role at params rest = if length params == role_size role then rest else Err (fault Arity at)

  -- a use of the row's parameter in a def is told at the operator
  abbrev pub told_at : {A : Type 0} → ℕ → Result A Fault → Result A Fault
  told_at at (Ok x) = Ok x
  told_at at (Err e) = Err (fault RowUse at)

  -- the function of a lambda, whose names these are
  abbrev pub function_of_lambda : List Text → Role → ℕ → List Text → Tree → Result (Function K) Fault
  function_of_lambda names role at params a =
      has_params role at params (do
        x ← linked (scope_of_lambda role params) a
        Ok (function role (map slot (plain_params role params)) (map slot names) (f.gives x)))

  -- the function of a def: first it is looked at as a def, which takes values, then as what the operator makes of it
  abbrev pub function_of_def : List Text → Role → ℕ → Text → List Text → Body → Result (Function K) Fault
  function_of_def names role at n params b = do
    plain ← does_body (scope_of_def (Plain (length params)) n params b) b
    has_params role at params (do
      ss ← told_at at (does_body (scope_of_def role n params b) b)
      Ok (function role (map slot (plain_params role params)) (map slot names) (f.does ss)))
