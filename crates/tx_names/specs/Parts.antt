-- What a function reads of a row, in the order of the tokens. A def that is called reads no row.
use Rattle.std.specs.Prelude.{ℕ, List, [], ◌∷◌, ◌++◌}
use Rattle.tx_names.specs.Function.{Expr, cell, paren, tuple, list, dict, comprehension, call, builtin, method, index, slice, unary, binary, compare, negation, conjunction, disjunction, conditional, Exprs, none, more, Pairs, no_pair, pair, Comparisons, no_operand, operand, Maybe, absent, present, Iterable, value, walk, view, Statement, return, assign, augment, express, branch, repeat, Statements, finish, next, Arms, no_arm, arm, Body, gives, does, Function, function}

-- the columns whose cells are read
abbrev mutual
  pub columns_in : {N : Type 0} → Expr N → List (List ℕ)
  columns_in (cell c) = c ∷ []
  columns_in (paren a) = columns_in a
  columns_in (tuple es) = columns_in_each es
  columns_in (list es) = columns_in_each es
  columns_in (dict ps) = columns_in_pairs ps
  columns_in (comprehension a t i c) = columns_in a ++ columns_in_iterable i ++ columns_in_maybe c
  columns_in (call f es) = columns_in_each es
  columns_in (builtin b es) = columns_in_each es
  columns_in (method a m es) = columns_in a ++ columns_in_each es
  columns_in (index a i) = columns_in a ++ columns_in i
  columns_in (slice a i j) = columns_in a ++ columns_in_maybe i ++ columns_in_maybe j
  columns_in (unary op a) = columns_in a
  columns_in (binary a op b) = columns_in a ++ columns_in b
  columns_in (compare a cs) = columns_in a ++ columns_in_comparisons cs
  columns_in (negation a) = columns_in a
  columns_in (conjunction a es) = columns_in a ++ columns_in_each es
  columns_in (disjunction a es) = columns_in a ++ columns_in_each es
  columns_in (conditional a t b) = columns_in a ++ columns_in t ++ columns_in b
  columns_in _ = []

  pub columns_in_each : {N : Type 0} → Exprs N → List (List ℕ)
  columns_in_each none = []
  columns_in_each (more a es) = columns_in a ++ columns_in_each es

  pub columns_in_pairs : {N : Type 0} → Pairs N → List (List ℕ)
  columns_in_pairs no_pair = []
  columns_in_pairs (pair a b ps) = columns_in a ++ columns_in b ++ columns_in_pairs ps

  pub columns_in_comparisons : {N : Type 0} → Comparisons N → List (List ℕ)
  columns_in_comparisons no_operand = []
  columns_in_comparisons (operand op a cs) = columns_in a ++ columns_in_comparisons cs

  pub columns_in_maybe : {N : Type 0} → Maybe N → List (List ℕ)
  columns_in_maybe absent = []
  columns_in_maybe (present a) = columns_in a

  pub columns_in_iterable : {N : Type 0} → Iterable N → List (List ℕ)
  columns_in_iterable (value a) = columns_in a
  columns_in_iterable (walk w es) = columns_in_each es
  columns_in_iterable (view a w) = columns_in a

abbrev mutual
  pub columns_of_statement : {N : Type 0} → Statement N → List (List ℕ)
  columns_of_statement (return a) = columns_in_maybe a
  columns_of_statement (assign t a) = columns_in a
  columns_of_statement (augment n op a) = columns_in a
  columns_of_statement (express a) = columns_in a
  columns_of_statement (branch arms ss) = columns_of_arms arms ++ columns_of_statements ss
  columns_of_statement (repeat t i ss) = columns_in_iterable i ++ columns_of_statements ss
  columns_of_statement _ = []

  pub columns_of_statements : {N : Type 0} → Statements N → List (List ℕ)
  columns_of_statements finish = []
  columns_of_statements (next s ss) = columns_of_statement s ++ columns_of_statements ss

  pub columns_of_arms : {N : Type 0} → Arms N → List (List ℕ)
  columns_of_arms no_arm = []
  columns_of_arms (arm a ss arms) = columns_in a ++ columns_of_statements ss ++ columns_of_arms arms

abbrev pub columns_of_body : {N : Type 0} → Body N → List (List ℕ)
columns_of_body (gives a) = columns_in a
columns_of_body (does ss) = columns_of_statements ss

abbrev pub columns_of : {N : Type 0} → Function N → List (List ℕ)
columns_of (function role params locals body) = columns_of_body body
