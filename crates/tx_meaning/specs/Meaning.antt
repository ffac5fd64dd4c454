-- What a function means: of a row and the values of its parameters a value, or the class that is raised. Parts are evaluated from
-- left to right, and the first class that is raised is the answer (Python Language Reference, "Evaluation order"). A def that is
-- called is a part of the tree, so each clause speaks of smaller parts alone.
use Rattle.std.specs.Prelude.{ℕ, Bool, true, false, not, if◌then◌else◌, List, [], ◌∷◌, Option, Some, None, Result, Ok, Err}
use Rattle.tx_base.specs.declared.class.Class.TheVariants.{AttributeError, ProfileError}
use Rattle.tx_values.specs.declared.value.Value.{Value, out-Value}
use Rattle.tx_values.specs.declared.value.Value.TheVariants as v
use Rattle.tx_values.specs.declared.value.Value.TheOpen.{Value-F}
use Rattle.tx_values.specs.declared.value.Value.TheOpen as open_value
use Rattle.tx_values.specs.Answer.{Answer, ◌>>=◌}
use Rattle.tx_values.specs.Equality.{truthy}
use Rattle.tx_values.specs.Limits.{made}
use Rattle.tx_ops.specs.Binary.{binary_of}
use Rattle.tx_ops.specs.Unary.{unary_of}
use Rattle.tx_ops.specs.Compare.{compare_of}
use Rattle.tx_ops.specs.Index.{index_of}
use Rattle.tx_ops.specs.Slice.{slice_of}
use Rattle.tx_methods.specs.Builtins.{builtin_of}
use Rattle.tx_methods.specs.Methods.{has_method_of, has_views_of, method_of}
use Rattle.tx_methods.specs.Walks.{iterate_of, items_of_walk}
use Rattle.tx_names.specs.Function.{Target, Expr, nil, truth, int, text, name, cell, paren, tuple, list, dict, comprehension, call, builtin, method, index, slice, unary, binary, compare, negation, conjunction, disjunction, conditional, Exprs, none, more, Pairs, no_pair, pair, Comparisons, no_operand, operand, Maybe, absent, present, Iterable, value, walk, view, Statement, pass, break, continue, return, assign, augment, express, branch, repeat, Statements, finish, next, Arms, no_arm, arm, Body, gives, does, Function, function}
use Rattle.tx_meaning.specs.Maps as maps
use Rattle.tx_meaning.specs.Maps.{Row, no_row, read_cell, read_local}
use Rattle.tx_meaning.specs.Containers.{entered, longer}

-- ---- how a statement ends that raises nothing

-- it goes on, breaks, continues, or gives back a value
pub data Course (M : Type 0) : Type 0 where
  goes_on : M → Course M
  breaks : M → Course M
  continues : M → Course M
  gives_back : Value → Course M

-- the rest of a suite, where the statement before it goes on
abbrev pub and_then : {M : Type 0} → (M → Answer (Course M)) → Course M → Answer (Course M)
and_then rest (goes_on m) = rest m
and_then rest (breaks m) = Ok (breaks m)
and_then rest (continues m) = Ok (continues m)
and_then rest (gives_back x) = Ok (gives_back x)

-- the rest of a loop's turns ("The break statement", "The continue statement")
abbrev pub and_again : {M : Type 0} → (M → Answer (Course M)) → Course M → Answer (Course M)
and_again rest (goes_on m) = rest m
and_again rest (continues m) = rest m
and_again rest (breaks m) = Ok (goes_on m)
and_again rest (gives_back x) = Ok (gives_back x)

-- a body that ends without a return gives None ("Calls")
abbrev pub result_of : {M : Type 0} → Course M → Value
result_of (gives_back x) = x
result_of _ = v.Nil

-- what a `return` gives, with an expression or without
abbrev pub or_nil : Option Value → Value
or_nil None = v.Nil
or_nil (Some x) = x

-- ---- `a op= b`, of the value of `a`: a list would be changed in place, which the profile leaves out

abbrev pub is_list : Value-F Value → Bool
is_list (open_value.List items) = true
is_list _ = false

module _ {N : Type 0} (same : N → N → Bool) where
  abbrev pub Map : Type 0
  Map = maps.Map same

  -- what a statement does with the values of names
  abbrev pub Does : Type 0
  Does = Map → Answer (Course Map)

  -- ---- turns

  -- the list of a comprehension so far, and the element behind it where the condition holds
  abbrev pub add_item : (Map → Answer Value) → (Map → Answer Bool) → List Value → Map → Answer (List Value)
  add_item element holds sofar inner = do
    wanted ← holds inner
    if wanted then (do x ← element inner; longer sofar x) else Ok sofar

  -- one turn of a comprehension: its variables are given the item, beside the names outside
  abbrev pub add_turn : (Map → Answer Value) → (Map → Answer Bool) → Target N → List Value → Value → Map → Answer (List Value)
  add_turn element holds target sofar x m = do
    inner ← maps.take same target x m
    add_item element holds sofar inner

  -- all its turns; the names outside stay as they are
  unfoldable pub collect : (Map → Answer Value) → (Map → Answer Bool) → Target N → List Value → List Value → Map → Answer (List Value)
  collect element holds target sofar [] m = Ok sofar
  collect element holds target sofar (x ∷ xs) m = do
    all ← add_turn element holds target sofar x m
    collect element holds target all xs m

  -- one turn of a loop
  abbrev pub turn : Does → Target N → Value → Does
  turn body target x m = do
    inner ← maps.take same target x m
    body inner

  -- all its turns; the names stay as the last one left them
  unfoldable pub turns : Does → Target N → List Value → Does
  turns body target [] m = Ok (goes_on m)
  turns body target (x ∷ xs) m = do
    course ← turn body target x m
    and_again (turns body target xs) course

  abbrev mutual
    pub means : Expr N → Row → Map → Answer Value
    -- "Literals", "Identifiers (Names)"
    means nil r m = Ok v.Nil
    means (truth b) r m = Ok (v.Truth b)
    means (int n) r m = Ok (v.Int n)
    means (text t) r m = Ok (v.Text t)
    means (name n) r m = read_local (m n)
    means (cell c) r m = read_cell (r c)
    -- "Parenthesized forms", "List displays": all items, and then the value
    means (paren a) r m = means a r m
    means (tuple es) r m = do
      xs ← means_each es r m
      made (v.Tuple xs)
    means (list es) r m = do
      xs ← means_each es r m
      made (v.List xs)
    -- "Dictionary displays": all pairs, and then they are entered
    means (dict ps) r m = do
      pairs ← means_pairs ps r m
      entries ← entered [] pairs
      made (v.Dict entries)
    -- "Displays for lists, sets and dictionaries": the iterable outside, whole
    means (comprehension a t i c) r m = do
      items ← means_items i r m
      all ← collect (means a r) (holds c r) t [] items m
      Ok (v.List all)
    -- "Calls": the arguments, and then the body, which sees them alone
    means (call f es) r m = do
      xs ← means_each es r m
      applied f no_row xs
    means (builtin b es) r m = do
      xs ← means_each es r m
      builtin_of b xs
    -- "Attribute references", "Calls": the value, whether it has the method, and only then the arguments
    means (method a w es) r m = do
      x ← means a r m
      if has_method_of w x then (do xs ← means_each es r m; method_of w x xs) else Err AttributeError
    -- "Subscriptions", "Slicings"
    means (index a i) r m = do
      x ← means a r m
      at ← means i r m
      index_of x at
    means (slice a i j) r m = do
      x ← means a r m
      from ← means_maybe i r m
      to ← means_maybe j r m
      slice_of x from to
    -- "Unary arithmetic and bitwise operations", "Binary arithmetic operations"
    means (unary op a) r m = do
      x ← means a r m
      unary_of op x
    means (binary a op b) r m = do
      x ← means a r m
      y ← means b r m
      binary_of op x y
    -- "Comparisons"
    means (compare a cs) r m = do
      x ← means a r m
      means_chain cs x r m
    -- "Boolean operations"
    means (negation a) r m = do
      x ← means a r m
      Ok (v.Truth (not (truthy x)))
    means (conjunction a es) r m = do
      x ← means a r m
      means_and es x r m
    means (disjunction a es) r m = do
      x ← means a r m
      means_or es x r m
    -- "Conditional expressions": the condition first, and then one arm
    means (conditional a t b) r m = do
      x ← means t r m
      if truthy x then means a r m else means b r m

    pub means_each : Exprs N → Row → Map → Answer (List Value)
    means_each none r m = Ok []
    means_each (more a es) r m = do
      x ← means a r m
      xs ← means_each es r m
      Ok (x ∷ xs)

    pub means_pairs : Pairs N → Row → Map → Answer (List (Value × Value))
    means_pairs no_pair r m = Ok []
    means_pairs (pair a b ps) r m = do
      x ← means a r m
      y ← means b r m
      pairs ← means_pairs ps r m
      Ok ((x, y) ∷ pairs)

    pub means_maybe : Maybe N → Row → Map → Answer (Option Value)
    means_maybe absent r m = Ok None
    means_maybe (present a) r m = do
      x ← means a r m
      Ok (Some x)

    -- the operands behind `x`, each evaluated once, to the first comparison that is false
    pub means_chain : Comparisons N → Value → Row → Map → Answer Value
    means_chain no_operand x r m = Ok (v.Truth true)
    means_chain (operand op b cs) x r m = do
      y ← means b r m
      is ← compare_of op x y
      if is then means_chain cs y r m else Ok (v.Truth false)

    -- the operands behind `x`, to the first that is false, which is given; and to the first that is true
    pub means_and : Exprs N → Value → Row → Map → Answer Value
    means_and none x r m = Ok x
    means_and (more b es) x r m = if truthy x then (do y ← means b r m; means_and es y r m) else Ok x

    pub means_or : Exprs N → Value → Row → Map → Answer Value
    means_or none x r m = Ok x
    means_or (more b es) x r m = if truthy x then Ok x else (do y ← means b r m; means_or es y r m)

    -- the condition of a comprehension
    pub holds : Maybe N → Row → Map → Answer Bool
    holds absent r m = Ok true
    holds (present a) r m = do
      x ← means a r m
      Ok (truthy x)

    -- what a loop or a comprehension goes over, made whole before its first turn; of a view the value, and whether it has views
    pub means_items : Iterable N → Row → Map → Answer (List Value)
    means_items (value a) r m = do
      x ← means a r m
      iterate_of x
    means_items (walk w es) r m = do
      xs ← means_each es r m
      items_of_walk w xs
    means_items (view a w) r m = do
      x ← means a r m
      if has_views_of x then items_of_walk w (x ∷ []) else Err AttributeError

    pub runs : Statement N → Row → Does
    -- "The pass statement", "The break statement", "The continue statement", "The return statement"
    runs pass r m = Ok (goes_on m)
    runs break r m = Ok (breaks m)
    runs continue r m = Ok (continues m)
    runs (return a) r m = do
      x ← means_maybe a r m
      Ok (gives_back (or_nil x))
    -- "Assignment statements": the expression, and then the target
    runs (assign t a) r m = do
      x ← means a r m
      after ← maps.take same t x m
      Ok (goes_on after)
    -- "Augmented assignment statements": the name is read, and then the expression is evaluated
    runs (augment n op a) r m = do
      x ← read_local (m n)
      y ← means a r m
      z ← (if is_list (out-Value x) then Err ProfileError else binary_of op x y)
      Ok (goes_on (maps.put same n z m))
    -- "Expression statements"
    runs (express a) r m = do
      x ← means a r m
      Ok (goes_on m)
    -- "The if statement"
    runs (branch arms other) r m = chooses arms (runs_all other r) r m
    -- "The for statement"
    runs (repeat t i body) r m = do
      items ← means_items i r m
      turns (runs_all body r) t items m

    pub runs_all : Statements N → Row → Does
    runs_all finish r m = Ok (goes_on m)
    runs_all (next s ss) r m = do
      course ← runs s r m
      and_then (runs_all ss r) course

    -- the first arm whose condition is true, or what stands behind them
    pub chooses : Arms N → Does → Row → Does
    chooses no_arm other r m = other m
    chooses (arm t body arms) other r m = do
      x ← means t r m
      if truthy x then runs_all body r m else chooses arms other r m

    -- "Lambdas", "Function definitions"
    pub yields : Body N → Row → Map → Answer Value
    yields (gives a) r m = means a r m
    yields (does ss) r m = do
      course ← runs_all ss r m
      Ok (result_of course)

    -- a function at a row and the values of its parameters: no other name has a value
    pub applied : Function N → Row → List Value → Answer Value
    applied (function role params locals body) r xs = yields body r (maps.put_all same params xs (maps.no_locals same))
