-- A function with slots for its names: each name becomes its place among the function's own local names.
use Rattle.std.specs.Prelude.{ℕ, List, [], ◌∷◌, map}
use Rattle.tx_name_set.specs.NameSet.{place_in}
use Rattle.tx_names.specs.Function.{Target, one, several, Expr, nil, truth, int, text, name, cell, paren, tuple, list, dict, comprehension, call, builtin, method, index, slice, unary, binary, compare, negation, conjunction, disjunction, conditional, Exprs, none, more, Pairs, no_pair, pair, Comparisons, no_operand, operand, Maybe, absent, present, Iterable, value, walk, view, Statement, pass, break, continue, return, assign, augment, express, branch, repeat, Statements, finish, next, Arms, no_arm, arm, Body, gives, does, Function, function}
use Rattle.tx_names.specs.Scope.{Text}

abbrev pub numbered_target : (Text → ℕ) → Target Text → Target ℕ
numbered_target p (one n) = one (p n)
numbered_target p (several ns) = several (map p ns)

-- `p` is the place of a name; a def that is called has places of its own
abbrev mutual
  pub numbered_expr : (Text → ℕ) → Expr Text → Expr ℕ
  numbered_expr p nil = nil
  numbered_expr p (truth b) = truth b
  numbered_expr p (int n) = int n
  numbered_expr p (text t) = text t
  numbered_expr p (name n) = name (p n)
  numbered_expr p (cell c) = cell c
  numbered_expr p (paren a) = paren (numbered_expr p a)
  numbered_expr p (tuple es) = tuple (numbered_exprs p es)
  numbered_expr p (list es) = list (numbered_exprs p es)
  numbered_expr p (dict ps) = dict (numbered_pairs p ps)
  numbered_expr p (comprehension a t i c) = comprehension (numbered_expr p a) (numbered_target p t) (numbered_iterable p i) (numbered_maybe p c)
  numbered_expr p (call f es) = call (numbered f) (numbered_exprs p es)
  numbered_expr p (builtin b es) = builtin b (numbered_exprs p es)
  numbered_expr p (method a m es) = method (numbered_expr p a) m (numbered_exprs p es)
  numbered_expr p (index a i) = index (numbered_expr p a) (numbered_expr p i)
  numbered_expr p (slice a i j) = slice (numbered_expr p a) (numbered_maybe p i) (numbered_maybe p j)
  numbered_expr p (unary op a) = unary op (numbered_expr p a)
  numbered_expr p (binary a op b) = binary (numbered_expr p a) op (numbered_expr p b)
  numbered_expr p (compare a cs) = compare (numbered_expr p a) (numbered_comparisons p cs)
  numbered_expr p (negation a) = negation (numbered_expr p a)
  numbered_expr p (conjunction a es) = conjunction (numbered_expr p a) (numbered_exprs p es)
  numbered_expr p (disjunction a es) = disjunction (numbered_expr p a) (numbered_exprs p es)
  numbered_expr p (conditional a t b) = conditional (numbered_expr p a) (numbered_expr p t) (numbered_expr p b)

  pub numbered_exprs : (Text → ℕ) → Exprs Text → Exprs ℕ
  numbered_exprs p none = none
  numbered_exprs p (more a es) = more (numbered_expr p a) (numbered_exprs p es)

  pub numbered_pairs : (Text → ℕ) → Pairs Text → Pairs ℕ
  numbered_pairs p no_pair = no_pair
  numbered_pairs p (pair a b ps) = pair (numbered_expr p a) (numbered_expr p b) (numbered_pairs p ps)

  pub numbered_comparisons : (Text → ℕ) → Comparisons Text → Comparisons ℕ
  numbered_comparisons p no_operand = no_operand
  numbered_comparisons p (operand op a cs) = operand op (numbered_expr p a) (numbered_comparisons p cs)

  pub numbered_maybe : (Text → ℕ) → Maybe Text → Maybe ℕ
  numbered_maybe p absent = absent
  numbered_maybe p (present a) = present (numbered_expr p a)

  pub numbered_iterable : (Text → ℕ) → Iterable Text → Iterable ℕ
  numbered_iterable p (value a) = value (numbered_expr p a)
  numbered_iterable p (walk w es) = walk w (numbered_exprs p es)
  numbered_iterable p (view a w) = view (numbered_expr p a) w

  pub numbered_statement : (Text → ℕ) → Statement Text → Statement ℕ
  numbered_statement p pass = pass
  numbered_statement p break = break
  numbered_statement p continue = continue
  numbered_statement p (return a) = return (numbered_maybe p a)
  numbered_statement p (assign t a) = assign (numbered_target p t) (numbered_expr p a)
  numbered_statement p (augment n op a) = augment (p n) op (numbered_expr p a)
  numbered_statement p (express a) = express (numbered_expr p a)
  numbered_statement p (branch arms ss) = branch (numbered_arms p arms) (numbered_statements p ss)
  numbered_statement p (repeat t i ss) = repeat (numbered_target p t) (numbered_iterable p i) (numbered_statements p ss)

  pub numbered_statements : (Text → ℕ) → Statements Text → Statements ℕ
  numbered_statements p finish = finish
  numbered_statements p (next s ss) = next (numbered_statement p s) (numbered_statements p ss)

  pub numbered_arms : (Text → ℕ) → Arms Text → Arms ℕ
  numbered_arms p no_arm = no_arm
  numbered_arms p (arm a ss arms) = arm (numbered_expr p a) (numbered_statements p ss) (numbered_arms p arms)

  pub numbered_body : (Text → ℕ) → Body Text → Body ℕ
  numbered_body p (gives a) = gives (numbered_expr p a)
  numbered_body p (does ss) = does (numbered_statements p ss)

  pub numbered : Function Text → Function ℕ
  numbered (function role params locals body) = function role (map (place_in locals) params) (map (place_in locals) locals) (numbered_body (place_in locals) body)

-- each earlier def with slots
abbrev pub numbered_defs : List (Text × Function Text) → List (Text × Function ℕ)
numbered_defs [] = []
numbered_defs (d ∷ ds) = (d.0, numbered d.1) ∷ numbered_defs ds
