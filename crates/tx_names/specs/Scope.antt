-- Which names are local to a function, and which within its comprehensions (Python Language Reference, "Binding of names",
-- "Resolution of names", "Displays for lists, sets and dictionaries").
use Rattle.std.specs.Prelude.{ℕ, suc, Bool, false, ◌||◌, List, [], ◌∷◌, ◌++◌, Option, Some, None, slice_get, take}
use Rattle.tx_tree.specs.declared.target.Word.{Word}
use Rattle.tx_tree.specs.declared.target.Target.{Target}
use Rattle.tx_tree.specs.declared.target.Target.TheVariants as target
use Rattle.tx_tree.specs.Words.{same_text}
use Rattle.tx_tree.specs.Spell.{texts_of}
use Rattle.tx_tree.specs.Tree.{Tree, nil, truth, int, text, name, paren, tuple, bare_tuple, list, dict, comprehension, call, method, index, slice, unary, binary, compare, negation, conjunction, disjunction, conditional, Trees, none, more, PairTrees, no_pair, pair, Operands, no_operand, operand, MaybeTree, absent, present, Statement, pass, break, continue, return, assign, augment, express, branch, repeat, Body, line, indented, Statements, finish, next, Tail, nothing, otherwise, elif}
use Rattle.tx_name_set.specs.NameSet.{is_in, add_all}
use Rattle.tx_names.specs.declared.role.Role.{Role}
use Rattle.tx_names.specs.declared.role.Role.TheVariants.{Plain, OfRow, OfAccRow}

abbrev pub Text : Type 0
Text = List ℕ

-- the names of a target, in their order
abbrev pub words_of : Target → List Word
words_of (target.Name w) = w ∷ []
words_of (target.Names ws comma) = ws
words_of (target.Bracketed l ws comma) = ws

abbrev pub names_of : Target → List Text
names_of u = texts_of (words_of u)

-- how many arguments there are
abbrev pub number_of : Trees → ℕ
number_of none = 0
number_of (more a es) = suc (number_of es)

-- ---- the parameters

-- how many parameters a function has that takes this
abbrev pub role_size : Role → ℕ
role_size (Plain n) = n
role_size OfRow = 1
role_size OfAccRow = 2

-- the parameters that take values
abbrev pub plain_params : Role → List Text → List Text
plain_params (Plain n) params = params
plain_params OfRow params = []
plain_params OfAccRow params = take 1 params

-- and the one that takes a row
abbrev pub row_param : Role → List Text → Option Text
row_param (Plain n) params = None
row_param OfRow params = slice_get params 0
row_param OfAccRow params = slice_get params 1

-- ---- what is assigned anywhere in a function is local to it, a parameter too

abbrev mutual
  pub assigned : Statement → List Text
  assigned (assign l u a) = names_of u
  assigned (augment l n op a) = n ∷ []
  assigned (branch l a b t) = assigned_body b ++ assigned_tail t
  assigned (repeat l u a b) = names_of u ++ assigned_body b
  assigned _ = []

  pub assigned_body : Body → List Text
  assigned_body (line t) = assigned t
  assigned_body (indented ts) = assigned_each ts

  pub assigned_each : Statements → List Text
  assigned_each finish = []
  assigned_each (next t ts) = assigned t ++ assigned_each ts

  pub assigned_tail : Tail → List Text
  assigned_tail nothing = []
  assigned_tail (otherwise b) = assigned_body b
  assigned_tail (elif a b t) = assigned_body b ++ assigned_tail t

-- ---- the names around a part of a function

-- the def's own name, if it is one; the local names, those of the comprehensions around the part among them; the row's
-- parameter, if there is one
pub record Scope : Type 0 where
  pub own : Option Text
  pub locals : List Text
  pub row : Option Text

-- the name is that of an option
abbrev pub is_name_of : Option Text → Text → Bool
is_name_of None n = false
is_name_of (Some m) n = same_text m n

-- a local or the row's parameter
abbrev pub is_variable : Scope → Text → Bool
is_variable s n = is_name_of s.row n || is_in s.locals n

-- the variables of a comprehension are its own: they are local in its element and in its condition
abbrev pub within : Scope → Target → Scope
within s u = record { own = s.own; locals = add_all [] (names_of u) ++ s.locals; row = s.row }

-- ---- the places of names: each name once, the parameters that take values first, then what is assigned, then the
-- variables of comprehensions, in the order of the tokens

-- the names met so far, with the variables of the comprehensions in a tree
abbrev mutual
  pub with_inner : Tree → List Text → List Text
  with_inner (nil l) met = met
  with_inner (truth l b) met = met
  with_inner (int l n) met = met
  with_inner (text l t) met = met
  with_inner (name l n) met = met
  with_inner (paren l a) met = with_inner a met
  with_inner (tuple l es comma) met = with_inner_each es met
  with_inner (bare_tuple l es comma) met = with_inner_each es met
  with_inner (list l es comma) met = with_inner_each es met
  with_inner (dict l ps comma) met = with_inner_pairs ps met
  with_inner (comprehension l a u i c) met = with_inner_maybe c (with_inner i (add_all (with_inner a met) (names_of u)))
  with_inner (call l n es comma) met = with_inner_each es met
  with_inner (method l a w es comma) met = with_inner_each es (with_inner a met)
  with_inner (index l a i) met = with_inner i (with_inner a met)
  with_inner (slice l a i j) met = with_inner_maybe j (with_inner_maybe i (with_inner a met))
  with_inner (unary l op a) met = with_inner a met
  with_inner (binary l a op b) met = with_inner b (with_inner a met)
  with_inner (compare l a os) met = with_inner_operands os (with_inner a met)
  with_inner (negation l a) met = with_inner a met
  with_inner (conjunction l a es) met = with_inner_each es (with_inner a met)
  with_inner (disjunction l a es) met = with_inner_each es (with_inner a met)
  with_inner (conditional l a t b) met = with_inner b (with_inner t (with_inner a met))

  pub with_inner_each : Trees → List Text → List Text
  with_inner_each none met = met
  with_inner_each (more a es) met = with_inner_each es (with_inner a met)

  pub with_inner_pairs : PairTrees → List Text → List Text
  with_inner_pairs no_pair met = met
  with_inner_pairs (pair a b ps) met = with_inner_pairs ps (with_inner b (with_inner a met))

  pub with_inner_operands : Operands → List Text → List Text
  with_inner_operands no_operand met = met
  with_inner_operands (operand op a os) met = with_inner_operands os (with_inner a met)

  pub with_inner_maybe : MaybeTree → List Text → List Text
  with_inner_maybe absent met = met
  with_inner_maybe (present a) met = with_inner a met

abbrev mutual
  pub with_inner_of : Statement → List Text → List Text
  with_inner_of (pass l) met = met
  with_inner_of (break l) met = met
  with_inner_of (continue l) met = met
  with_inner_of (return l a) met = with_inner_maybe a met
  with_inner_of (assign l u a) met = with_inner a met
  with_inner_of (augment l n op a) met = with_inner a met
  with_inner_of (express l a) met = with_inner a met
  with_inner_of (branch l a b t) met = with_inner_tail t (with_inner_body b (with_inner a met))
  with_inner_of (repeat l u a b) met = with_inner_body b (with_inner a met)

  pub with_inner_body : Body → List Text → List Text
  with_inner_body (line t) met = with_inner_of t met
  with_inner_body (indented ts) met = with_inner_all ts met

  pub with_inner_all : Statements → List Text → List Text
  with_inner_all finish met = met
  with_inner_all (next t ts) met = with_inner_all ts (with_inner_of t met)

  pub with_inner_tail : Tail → List Text → List Text
  with_inner_tail nothing met = met
  with_inner_tail (otherwise b) met = with_inner_body b met
  with_inner_tail (elif a b t) met = with_inner_tail t (with_inner_body b (with_inner a met))

-- the names that are local to the whole of a def, and of a lambda
abbrev pub locals_of_def : Role → List Text → Body → List Text
locals_of_def role params b = add_all (add_all [] (plain_params role params)) (assigned_body b)

abbrev pub locals_of_lambda : Role → List Text → List Text
locals_of_lambda role params = add_all [] (plain_params role params)

-- and all its names
abbrev pub names_of_def : Role → List Text → Body → List Text
names_of_def role params b = with_inner_body b (locals_of_def role params b)

abbrev pub names_of_lambda : Role → List Text → Tree → List Text
names_of_lambda role params a = with_inner a (locals_of_lambda role params)

-- the scopes of the whole body
abbrev pub scope_of_def : Role → Text → List Text → Body → Scope
scope_of_def role n params b = record { own = Some n; locals = locals_of_def role params b; row = row_param role params }

abbrev pub scope_of_lambda : Role → List Text → Scope
scope_of_lambda role params = record { own = None; locals = locals_of_lambda role params; row = row_param role params }
