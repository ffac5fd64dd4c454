-- A function: the tree of a lambda's expression or of a def's statements, in which each word stands for what it names. A def
-- that is called is a part of the tree, so a function is whole without the script around it. `N` is what names are: texts in a
-- script, slots in a bound function. The nodes are those of the grammar (Python Language Reference, "Expressions", "Simple
-- statements", "Compound statements"); brackets are nodes, lines and commas behind a last item are left out.
use Rattle.std.specs.Prelude.{ℕ, Bool, List, ℤ}
use Rattle.tx_tree.specs.declared.operator.BinaryOp.{BinaryOp}
use Rattle.tx_tree.specs.declared.operator.UnaryOp.{UnaryOp}
use Rattle.tx_tree.specs.declared.operator.CompareOp.{CompareOp}
use Rattle.tx_tree.specs.declared.function.Method.{Method}
use Rattle.tx_tree.specs.declared.function.Builtin.{Builtin}
use Rattle.tx_tree.specs.declared.function.Walk.{Walk}
use Rattle.tx_names.specs.declared.role.Role.{Role}

-- a name, or names to which the items of a value go
pub data Target (N : Type 0) : Type 0 where
  one : N → Target N
  several : List N → Target N

mutual
  pub data Expr (N : Type 0) : Type 0 where
    nil : Expr N
    truth : Bool → Expr N
    int : ℤ → Expr N
    text : List ℕ → Expr N
    name : N → Expr N
    -- `x["c"]` of a row parameter
    cell : List ℕ → Expr N
    paren : Expr N → Expr N
    tuple : Exprs N → Expr N
    list : Exprs N → Expr N
    dict : Pairs N → Expr N
    -- the element, the target, the iterable and the condition
    comprehension : Expr N → Target N → Iterable N → Maybe N → Expr N
    call : Function N → Exprs N → Expr N
    builtin : Builtin → Exprs N → Expr N
    method : Expr N → Method → Exprs N → Expr N
    index : Expr N → Expr N → Expr N
    slice : Expr N → Maybe N → Maybe N → Expr N
    unary : UnaryOp → Expr N → Expr N
    binary : Expr N → BinaryOp → Expr N → Expr N
    -- the first operand, and those behind it
    compare : Expr N → Comparisons N → Expr N
    negation : Expr N → Expr N
    conjunction : Expr N → Exprs N → Expr N
    disjunction : Expr N → Exprs N → Expr N
    -- the first arm, the condition, the other arm
    conditional : Expr N → Expr N → Expr N → Expr N

  pub data Exprs (N : Type 0) : Type 0 where
    none : Exprs N
    more : Expr N → Exprs N → Exprs N

  -- the pairs of a dictionary display
  pub data Pairs (N : Type 0) : Type 0 where
    no_pair : Pairs N
    pair : Expr N → Expr N → Pairs N → Pairs N

  -- the operands of a comparison behind the first, each with its operator
  pub data Comparisons (N : Type 0) : Type 0 where
    no_operand : Comparisons N
    operand : CompareOp → Expr N → Comparisons N → Comparisons N

  pub data Maybe (N : Type 0) : Type 0 where
    absent : Maybe N
    present : Expr N → Maybe N

  -- what a loop or a comprehension goes over: a value, a walk, or a view of a dictionary
  pub data Iterable (N : Type 0) : Type 0 where
    value : Expr N → Iterable N
    walk : Walk → Exprs N → Iterable N
    view : Expr N → Walk → Iterable N

  pub data Statement (N : Type 0) : Type 0 where
    pass : Statement N
    break : Statement N
    continue : Statement N
    return : Maybe N → Statement N
    assign : Target N → Expr N → Statement N
    augment : N → BinaryOp → Expr N → Statement N
    express : Expr N → Statement N
    -- the arms of an `if`, and what stands behind `else`
    branch : Arms N → Statements N → Statement N
    repeat : Target N → Iterable N → Statements N → Statement N

  pub data Statements (N : Type 0) : Type 0 where
    finish : Statements N
    next : Statement N → Statements N → Statements N

  -- each arm with its condition
  pub data Arms (N : Type 0) : Type 0 where
    no_arm : Arms N
    arm : Expr N → Statements N → Arms N → Arms N

  -- what a lambda gives, what a def does
  pub data Body (N : Type 0) : Type 0 where
    gives : Expr N → Body N
    does : Statements N → Body N

  -- what it takes, its parameters that take values, its local names (each once, these parameters first), and its body
  pub data Function (N : Type 0) : Type 0 where
    function : Role → List N → List N → Body N → Function N

-- ---- the parts of a function

abbrev pub role_of : {N : Type 0} → Function N → Role
role_of (function role params locals body) = role

abbrev pub params_of : {N : Type 0} → Function N → List N
params_of (function role params locals body) = params

abbrev pub locals_of : {N : Type 0} → Function N → List N
locals_of (function role params locals body) = locals

abbrev pub body_of : {N : Type 0} → Function N → Body N
body_of (function role params locals body) = body
