-- The faults of names in a function. Each stands at a token; they are listed in the order of the tokens, those at one token in
-- the order in which they count: a def that calls itself, a name that is unknown there, a wrong number of arguments, a row's
-- parameter used as a value. The first one decides.
use Rattle.std.specs.Prelude.{ℕ, Bool, true, false, not, ◌||◌, ◌==◌, if◌then◌else◌, List, [], ◌∷◌, ◌++◌, length, Option, Some, None, option_map, is_some}
use Rattle.std.specs.List.{list_any, flat_map}
use Rattle.std.specs.Option.{option_map_or}
use Rattle.tx_tree.specs.declared.target.Target.{Target}
use Rattle.tx_tree.specs.Words.{same_text}
use Rattle.tx_tree.specs.Tree.{Tree, nil, truth, int, text, name, paren, tuple, bare_tuple, list, dict, comprehension, call, method, index, slice, unary, binary, compare, negation, conjunction, disjunction, conditional, Trees, none, more, PairTrees, no_pair, pair, Operands, no_operand, operand, MaybeTree, absent, present, Statement, pass, break, continue, return, assign, augment, express, branch, repeat, Body, line, indented, Statements, finish, next, Tail, nothing, otherwise, elif}
use Rattle.tx_names.specs.declared.role.Role.{Role}
use Rattle.tx_names.specs.declared.role.Role.TheVariants.{Plain}
use Rattle.tx_names.specs.declared.fault.Fault.{Fault}
use Rattle.tx_names.specs.declared.fault.FaultKind.{FaultKind}
use Rattle.tx_names.specs.declared.fault.FaultKind.TheVariants.{Recursive, Unknown, Arity, RowUse}
use Rattle.tx_tree.specs.Takes.{Takes, exactly, allows, builtin_takes, method_takes, walk_takes}
use Rattle.tx_names.specs.Named.{builtin_at, method_at, walk_function_at, view_at}
use Rattle.tx_names.specs.Scope.{Text, number_of, words_of, Scope, is_name_of, is_variable, within, role_size, scope_of_def, scope_of_lambda}

abbrev pub fault : FaultKind → ℕ → Fault
fault kind l = record { kind = kind; line = l }

-- this fault, where the condition holds
abbrev pub when : Bool → Fault → List Fault
when true f = f ∷ []
when false f = []

-- ---- what a word takes

-- an earlier def: its name, and how many parameters it has
abbrev pub Known : Type 0
Known = List (Text × ℕ)

abbrev pub params_of_def : Known → Text → Option ℕ
params_of_def [] n = None
params_of_def (d ∷ ds) n = if same_text d.0 n then Some d.1 else params_of_def ds n

abbrev pub first_some : {A : Type 0} → Option A → Option A → Option A
first_some None o = o
first_some (Some x) o = Some x

-- how many arguments a called name takes: that of a built-in function or of an earlier def, and no other; that of a walk can
-- not be called here, even where a def has it
abbrev pub called_takes : Known → Text → Option Takes
called_takes defs n = first_some (option_map builtin_takes (builtin_at n)) (if is_some (walk_function_at n) then None else option_map exactly (params_of_def defs n))

-- a wrong number of arguments, where the word takes some
abbrev pub is_miscounted : Option Takes → ℕ → Bool
is_miscounted None count = false
is_miscounted (Some t) count = not (allows t count)

-- ---- the faults at one token

-- a name that is read: it is a local, or the row's parameter, which can not be read alone
abbrev pub at_read : Scope → ℕ → Text → List Fault
at_read s l n = when (not (is_variable s n)) (fault Unknown l) ++ when (is_name_of s.row n) (fault RowUse l)

-- a name that is called with so many arguments: no variable, but what takes them
abbrev pub at_called : Scope → ℕ → Text → Option Takes → ℕ → List Fault
at_called s l n takes count =
    when (is_name_of s.own n) (fault Recursive l)
    ++ when (is_variable s n || not (is_some takes)) (fault Unknown l)
    ++ when (is_miscounted takes count) (fault Arity l)
    ++ when (is_name_of s.row n) (fault RowUse l)

-- the word of a method
abbrev pub at_method : ℕ → Option Takes → ℕ → List Fault
at_method l takes count = when (not (is_some takes)) (fault Unknown l) ++ when (is_miscounted takes count) (fault Arity l)

-- a name that is assigned to
abbrev pub at_assigned : Scope → ℕ → Text → List Fault
at_assigned s l n = when (is_name_of s.row n) (fault RowUse l)

abbrev pub at_target : Scope → Target → List Fault
at_target s u = flat_map (λ w. at_assigned s w.line w.text) (words_of u)

-- ---- the faults in a tree

-- `x["c"]` of the row's parameter: its column
abbrev pub cell_in : Option Text → Tree → Tree → Option Text
cell_in row (name l n) (text k c) = if is_name_of row n then Some c else None
cell_in row _ _ = None

abbrev pub unless_cell : Option Text → List Fault → List Fault
unless_cell None fs = fs
unless_cell (Some c) fs = []

-- how many arguments a walk takes that is called here as an iterable: the name of no variable and not the def's own
abbrev pub walk_here : Scope → Text → Option Takes
walk_here s n = if is_name_of s.own n || is_variable s n then None else option_map walk_takes (walk_function_at n)

abbrev pub is_row_kind : FaultKind → Bool
is_row_kind RowUse = true
is_row_kind _ = false

abbrev pub is_row_use : Fault → Bool
is_row_use f = is_row_kind f.kind

module _ (defs : Known) where
  abbrev mutual
    pub faults : Scope → Tree → List Fault
    faults s (nil l) = []
    faults s (truth l b) = []
    faults s (int l n) = []
    faults s (text l t) = []
    faults s (name l n) = at_read s l n
    faults s (paren l a) = faults s a
    faults s (tuple l es comma) = faults_each s es
    faults s (bare_tuple l es comma) = faults_each s es
    faults s (list l es comma) = faults_each s es
    faults s (dict l ps comma) = faults_pairs s ps
    faults s (comprehension l a u i c) = faults (within s u) a ++ at_target s u ++ faults_iterable s i (faults s i) ++ faults_maybe (within s u) c
    faults s (call l n es comma) = at_called s l n (called_takes defs n) (number_of es) ++ faults_each s es
    faults s (method l a w es comma) = faults s a ++ at_method w.line (option_map method_takes (method_at w.text)) (number_of es) ++ faults_each s es
    faults s (index l a i) = unless_cell (cell_in s.row a i) (faults s a ++ faults s i)
    faults s (slice l a i j) = faults s a ++ faults_maybe s i ++ faults_maybe s j
    faults s (unary l op a) = faults s a
    faults s (binary l a op b) = faults s a ++ faults s b
    faults s (compare l a os) = faults s a ++ faults_operands s os
    faults s (negation l a) = faults s a
    faults s (conjunction l a es) = faults s a ++ faults_each s es
    faults s (disjunction l a es) = faults s a ++ faults_each s es
    faults s (conditional l a t b) = faults s a ++ faults s t ++ faults s b

    pub faults_each : Scope → Trees → List Fault
    faults_each s none = []
    faults_each s (more a es) = faults s a ++ faults_each s es

    pub faults_pairs : Scope → PairTrees → List Fault
    faults_pairs s no_pair = []
    faults_pairs s (pair a b ps) = faults s a ++ faults s b ++ faults_pairs s ps

    pub faults_operands : Scope → Operands → List Fault
    faults_operands s no_operand = []
    faults_operands s (operand op a os) = faults s a ++ faults_operands s os

    pub faults_maybe : Scope → MaybeTree → List Fault
    faults_maybe s absent = []
    faults_maybe s (present a) = faults s a

    -- the iterable of a `for` or of a comprehension is the whole expression there, without brackets: a walk or a view may
    -- stand in its place, any other has the faults of an expression
    pub faults_iterable : Scope → Tree → List Fault → List Fault
    faults_iterable s (call l n es comma) plain = option_map_or (λ t. when (not (allows t (number_of es))) (fault Arity l) ++ faults_each s es) (walk_here s n) plain
    faults_iterable s (method l a w es comma) plain = option_map_or (λ v. faults s a ++ at_method w.line (Some (walk_takes v)) (number_of es) ++ faults_each s es) (view_at w.text) plain
    faults_iterable s _ plain = plain

  abbrev mutual
    pub faults_of : Scope → Statement → List Fault
    faults_of s (pass l) = []
    faults_of s (break l) = []
    faults_of s (continue l) = []
    faults_of s (return l a) = faults_maybe s a
    faults_of s (assign l u a) = at_target s u ++ faults s a
    faults_of s (augment l n op a) = at_assigned s l n ++ faults s a
    faults_of s (express l a) = faults s a
    faults_of s (branch l a b t) = faults s a ++ faults_body s b ++ faults_tail s t
    faults_of s (repeat l u i b) = at_target s u ++ faults_iterable s i (faults s i) ++ faults_body s b

    pub faults_body : Scope → Body → List Fault
    faults_body s (line t) = faults_of s t
    faults_body s (indented ts) = faults_all s ts

    pub faults_all : Scope → Statements → List Fault
    faults_all s finish = []
    faults_all s (next t ts) = faults_of s t ++ faults_all s ts

    pub faults_tail : Scope → Tail → List Fault
    faults_tail s nothing = []
    faults_tail s (otherwise b) = faults_body s b
    faults_tail s (elif a b t) = faults s a ++ faults_body s b ++ faults_tail s t

  -- ---- the faults of a function, which an operator uses in a role; `at` is the line of the operator's argument

  -- a number of parameters that the role does not have
  abbrev pub at_params : Role → ℕ → List Text → List Fault
  at_params role at params = when (not (length params == role_size role)) (fault Arity at)

  -- a lambda stands at the operator: its first token is that of the argument
  abbrev pub faults_of_lambda : Role → ℕ → List Text → Tree → List Fault
  faults_of_lambda role at params a = at_params role at params ++ faults (scope_of_lambda role params) a

  -- a def stands ahead of the operator: as a def it takes values alone, and what an operator asks of it is asked at the operator.
  -- A def that no operator uses is looked at in the role of its own number of values, in which the last two have no fault
  abbrev pub faults_of_def : Role → ℕ → Text → List Text → Body → List Fault
  faults_of_def role at n params b =
      faults_body (scope_of_def (Plain (length params)) n params b) b
      ++ at_params role at params
      ++ when (list_any is_row_use (faults_body (scope_of_def role n params b) b)) (fault RowUse at)

abbrev pub first : List Fault → Option Fault
first [] = None
first (f ∷ fs) = Some f
