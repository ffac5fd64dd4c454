-- The trees of the grammar, on which all that is said of trees goes by recursion, and the tree of each node of the code.
-- The number first in a node is the line of its first token; the truth value behind a list says whether a comma stands
-- behind the last item.
use Rattle.std.specs.Prelude.{ℕ, ℤ, Bool, List, [], ◌∷◌, Option, map, option_map}
use Rattle.tx_tree.specs.declared.operator.BinaryOp.{BinaryOp}
use Rattle.tx_tree.specs.declared.operator.UnaryOp.{UnaryOp}
use Rattle.tx_tree.specs.declared.operator.CompareOp.{CompareOp}
use Rattle.tx_tree.specs.declared.target.Word.{Word}
use Rattle.tx_tree.specs.declared.target.Target.{Target}
use Rattle.tx_tree.specs.declared.expr.Expr.{Expr, fold-Expr}
use Rattle.tx_tree.specs.declared.expr.Expr.TheOpen.{Expr-F, Maybe-F, Operand-F, Pair-F}
use Rattle.tx_tree.specs.declared.expr.Expr.TheOpen as e
use Rattle.tx_tree.specs.declared.expr.Maybe.{Maybe, fold-Maybe}
use Rattle.tx_tree.specs.declared.expr.Operand.{Operand, fold-Operand}
use Rattle.tx_tree.specs.declared.expr.Pair.{Pair, fold-Pair}
use Rattle.tx_tree.specs.declared.stmt.Stmt.{Stmt, fold-Stmt}
use Rattle.tx_tree.specs.declared.stmt.Otherwise.TheOpen.{Stmt-F, Suite-F, Otherwise-F, Arm-F}
use Rattle.tx_tree.specs.declared.stmt.Otherwise.TheOpen as s
use Rattle.tx_tree.specs.declared.stmt.Suite.{Suite, fold-Suite}
use Rattle.tx_tree.specs.declared.stmt.Otherwise.{Otherwise, fold-Otherwise}
use Rattle.tx_tree.specs.declared.stmt.Arm.{Arm, fold-Arm}
use Rattle.tx_tree.specs.declared.block.Block.{Block}
use Rattle.tx_tree.specs.declared.block.Block.TheVariants as b
use Rattle.tx_tree.specs.declared.block.Chain.{Chain}
use Rattle.tx_tree.specs.declared.block.Head.{Head}
use Rattle.tx_tree.specs.declared.block.Link.{Link}
use Rattle.tx_tree.specs.declared.block.Args.{Args}
use Rattle.tx_tree.specs.declared.block.Arg.{Arg}
use Rattle.tx_tree.specs.declared.block.Arg.TheVariants as a

-- ---- expressions

mutual
  pub data Tree : Type 0 where
    nil : ℕ → Tree
    truth : ℕ → Bool → Tree
    int : ℕ → ℤ → Tree
    text : ℕ → List ℕ → Tree
    name : ℕ → List ℕ → Tree
    paren : ℕ → Tree → Tree
    -- a tuple in brackets, and one without them
    tuple : ℕ → Trees → Bool → Tree
    bare_tuple : ℕ → Trees → Bool → Tree
    list : ℕ → Trees → Bool → Tree
    dict : ℕ → PairTrees → Bool → Tree
    -- the element, the target, the iterable, the condition
    comprehension : ℕ → Tree → Target → Tree → MaybeTree → Tree
    call : ℕ → List ℕ → Trees → Bool → Tree
    method : ℕ → Tree → Word → Trees → Bool → Tree
    index : ℕ → Tree → Tree → Tree
    slice : ℕ → Tree → MaybeTree → MaybeTree → Tree
    unary : ℕ → UnaryOp → Tree → Tree
    binary : ℕ → Tree → BinaryOp → Tree → Tree
    -- the first operand, and those behind it
    compare : ℕ → Tree → Operands → Tree
    negation : ℕ → Tree → Tree
    conjunction : ℕ → Tree → Trees → Tree
    disjunction : ℕ → Tree → Trees → Tree
    -- the first arm, the condition, the other arm
    conditional : ℕ → Tree → Tree → Tree → Tree

  pub data Trees : Type 0 where
    none : Trees
    more : Tree → Trees → Trees

  pub data PairTrees : Type 0 where
    no_pair : PairTrees
    pair : Tree → Tree → PairTrees → PairTrees

  -- each operand of a comparison behind its operator
  pub data Operands : Type 0 where
    no_operand : Operands
    operand : CompareOp → Tree → Operands → Operands

  pub data MaybeTree : Type 0 where
    absent : MaybeTree
    present : Tree → MaybeTree

abbrev pub trees : List Tree → Trees
trees [] = none
trees (t ∷ ts) = more t (trees ts)

abbrev pub pair_trees : List (Tree × Tree) → PairTrees
pair_trees [] = no_pair
pair_trees (p ∷ ps) = pair p.0 p.1 (pair_trees ps)

abbrev pub operands : List (CompareOp × Tree) → Operands
operands [] = no_operand
operands (o ∷ os) = operand o.0 o.1 (operands os)

-- ---- statements

mutual
  pub data Statement : Type 0 where
    pass : ℕ → Statement
    break : ℕ → Statement
    continue : ℕ → Statement
    return : ℕ → MaybeTree → Statement
    assign : ℕ → Target → Tree → Statement
    augment : ℕ → List ℕ → BinaryOp → Tree → Statement
    express : ℕ → Tree → Statement
    branch : ℕ → Tree → Body → Tail → Statement
    repeat : ℕ → Target → Tree → Body → Statement

  -- a suite on its own line, or an indented one
  pub data Body : Type 0 where
    line : Statement → Body
    indented : Statements → Body

  pub data Statements : Type 0 where
    finish : Statements
    next : Statement → Statements → Statements

  -- what stands behind the first suite of an `if`
  pub data Tail : Type 0 where
    nothing : Tail
    otherwise : Body → Tail
    elif : Tree → Body → Tail → Tail

abbrev pub statements : List Statement → Statements
statements [] = finish
statements (t ∷ ts) = next t (statements ts)

-- the arms behind `elif`, and then what stands behind them
abbrev pub tail : List (Tree × Body) → Tail → Tail
tail [] other = other
tail (arm ∷ arms) other = elif arm.0 arm.1 (tail arms other)

-- ---- blocks

-- an argument of a link or of a head
pub data ArgTree : Type 0 where
  lambda : ℕ → List (List ℕ) → Tree → ArgTree
  plain : Tree → ArgTree

pub record ArgTrees : Type 0 where
  pub items : List ArgTree
  pub comma : Bool

pub record HeadTree : Type 0 where
  pub word : Word
  pub args : Option ArgTrees

pub record LinkTree : Type 0 where
  pub line : ℕ
  pub word : Word
  pub args : ArgTrees

pub record ChainTree : Type 0 where
  pub line : ℕ
  pub in_brackets : Bool
  pub head : HeadTree
  pub links : List LinkTree

pub data BlockTree : Type 0 where
  -- the name, the parameters, whether a comma stands behind the last, the suite
  define : ℕ → List ℕ → List (List ℕ) → Bool → Body → BlockTree
  pipeline : ℕ → List ℕ → ChainTree → BlockTree
  alone : ChainTree → BlockTree

-- ---- the tree of an expression of the code

abbrev pub ExprLayer : (Type 0 → Type 0 → Type 0 → Type 0 → Type 0) → Type 0
ExprLayer F = F Tree MaybeTree (CompareOp × Tree) (Tree × Tree)

abbrev pub tree_step : ExprLayer Expr-F → Tree
tree_step (e.Nil l) = nil l
tree_step (e.Truth l b) = truth l b
tree_step (e.Int l n) = int l n
tree_step (e.Text l t) = text l t
tree_step (e.Name l n) = name l n
tree_step (e.Paren l a) = paren l a
tree_step (e.Tuple l es comma) = tuple l (trees es) comma
tree_step (e.BareTuple l es comma) = bare_tuple l (trees es) comma
tree_step (e.List l es comma) = list l (trees es) comma
tree_step (e.Dict l ps comma) = dict l (pair_trees ps) comma
tree_step (e.Comprehension l a t i c) = comprehension l a t i c
tree_step (e.Call l n es comma) = call l n (trees es) comma
tree_step (e.Method l a w es comma) = method l a w (trees es) comma
tree_step (e.Index l a i) = index l a i
tree_step (e.Slice l a i j) = slice l a i j
tree_step (e.Unary l op a) = unary l op a
tree_step (e.Binary l a op c) = binary l a op c
tree_step (e.Compare l a os) = compare l a (operands os)
tree_step (e.Not l a) = negation l a
tree_step (e.And l a es) = conjunction l a (trees es)
tree_step (e.Or l a es) = disjunction l a (trees es)
tree_step (e.Conditional l a t c) = conditional l a t c

abbrev pub maybe_step : ExprLayer Maybe-F → MaybeTree
maybe_step e.Absent = absent
maybe_step (e.Present a) = present a

abbrev pub operand_step : ExprLayer Operand-F → CompareOp × Tree
operand_step o = (o.op, o.right)

abbrev pub pair_step : ExprLayer Pair-F → Tree × Tree
pair_step p = (p.key, p.value)

abbrev pub tree_of : Expr → Tree
tree_of = fold-Expr Tree MaybeTree (CompareOp × Tree) (Tree × Tree) tree_step maybe_step operand_step pair_step

abbrev pub maybe_of : Maybe → MaybeTree
maybe_of = fold-Maybe Tree MaybeTree (CompareOp × Tree) (Tree × Tree) tree_step maybe_step operand_step pair_step

abbrev pub operand_of : Operand → CompareOp × Tree
operand_of = fold-Operand Tree MaybeTree (CompareOp × Tree) (Tree × Tree) tree_step maybe_step operand_step pair_step

abbrev pub pair_of : Pair → Tree × Tree
pair_of = fold-Pair Tree MaybeTree (CompareOp × Tree) (Tree × Tree) tree_step maybe_step operand_step pair_step

-- ---- the tree of a statement

abbrev pub StmtLayer : (Type 0 → Type 0 → Type 0 → Type 0 → Type 0) → Type 0
StmtLayer F = F Tail Statement Body (Tree × Body)

abbrev pub otherwise_step : StmtLayer Otherwise-F → Tail
otherwise_step s.Absent = nothing
otherwise_step (s.Present c) = otherwise c

abbrev pub statement_step : StmtLayer Stmt-F → Statement
statement_step (s.Pass l) = pass l
statement_step (s.Break l) = break l
statement_step (s.Continue l) = continue l
statement_step (s.Return l m) = return l (maybe_of m)
statement_step (s.Assign l t x) = assign l t (tree_of x)
statement_step (s.Augment l n op x) = augment l n op (tree_of x)
statement_step (s.Express l x) = express l (tree_of x)
statement_step (s.If l x c arms other) = branch l (tree_of x) c (tail arms other)
statement_step (s.For l t x c) = repeat l t (tree_of x) c

abbrev pub body_step : StmtLayer Suite-F → Body
body_step (s.Line t) = line t
body_step (s.Indented ts) = indented (statements ts)

abbrev pub arm_step : StmtLayer Arm-F → Tree × Body
arm_step r = (tree_of r.test, r.suite)

abbrev pub statement_of : Stmt → Statement
statement_of = fold-Stmt Tail Statement Body (Tree × Body) otherwise_step statement_step body_step arm_step

abbrev pub body_of : Suite → Body
body_of = fold-Suite Tail Statement Body (Tree × Body) otherwise_step statement_step body_step arm_step

abbrev pub otherwise_of : Otherwise → Tail
otherwise_of = fold-Otherwise Tail Statement Body (Tree × Body) otherwise_step statement_step body_step arm_step

abbrev pub arm_of : Arm → Tree × Body
arm_of = fold-Arm Tail Statement Body (Tree × Body) otherwise_step statement_step body_step arm_step

-- ---- the tree of a block

abbrev pub arg_of : Arg → ArgTree
arg_of (a.Lambda l params x) = lambda l params (tree_of x)
arg_of (a.Plain x) = plain (tree_of x)

abbrev pub args_of : Args → ArgTrees
args_of x = record { items = map arg_of x.items; comma = x.comma }

abbrev pub head_of : Head → HeadTree
head_of x = record { word = x.word; args = option_map args_of x.args }

abbrev pub link_of : Link → LinkTree
link_of x = record { line = x.line; word = x.word; args = args_of x.args }

abbrev pub chain_of : Chain → ChainTree
chain_of x = record { line = x.line; in_brackets = x.in_brackets; head = head_of x.head; links = map link_of x.links }

abbrev pub block_of : Block → BlockTree
block_of (b.Def l n params comma suite) = define l n params comma (body_of suite)
block_of (b.Named l n chain) = pipeline l n (chain_of chain)
block_of (b.Alone chain) = alone (chain_of chain)
