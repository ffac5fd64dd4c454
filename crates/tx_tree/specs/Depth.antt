-- How deep a tree is: 1 of a node without parts, and else one more than the greatest depth of its parts, which are
-- expressions and statements. A target, a suite, a parameter and a word add nothing; brackets count.
use Rattle.std.specs.Prelude.{ℕ, ◌+◌, max, List, [], ◌∷◌, Option, Some, None}
use Rattle.tx_tree.specs.Tree.{Tree, nil, truth, int, text, name, paren, tuple, bare_tuple, list, dict, comprehension, call, method, index, slice, unary, binary, compare, negation, conjunction, disjunction, conditional, Trees, none, more, PairTrees, no_pair, pair, Operands, no_operand, operand, MaybeTree, absent, present, Statement, pass, break, continue, return, assign, augment, express, branch, repeat, Body, line, indented, Statements, finish, next, Tail, nothing, otherwise, elif, ArgTree, lambda, plain, ArgTrees, LinkTree, ChainTree, BlockTree, define, pipeline, alone}

abbrev mutual
  pub depth : Tree → ℕ
  depth (nil l) = 1
  depth (truth l b) = 1
  depth (int l n) = 1
  depth (text l t) = 1
  depth (name l n) = 1
  depth (paren l a) = 1 + depth a
  depth (tuple l es comma) = 1 + depth_each es
  depth (bare_tuple l es comma) = 1 + depth_each es
  depth (list l es comma) = 1 + depth_each es
  depth (dict l ps comma) = 1 + depth_pairs ps
  depth (comprehension l a t i c) = 1 + max (depth a) (max (depth i) (depth_maybe c))
  depth (call l n es comma) = 1 + depth_each es
  depth (method l a w es comma) = 1 + max (depth a) (depth_each es)
  depth (index l a i) = 1 + max (depth a) (depth i)
  depth (slice l a i j) = 1 + max (depth a) (max (depth_maybe i) (depth_maybe j))
  depth (unary l o a) = 1 + depth a
  depth (binary l a o b) = 1 + max (depth a) (depth b)
  depth (compare l a os) = 1 + max (depth a) (depth_operands os)
  depth (negation l a) = 1 + depth a
  depth (conjunction l a es) = 1 + max (depth a) (depth_each es)
  depth (disjunction l a es) = 1 + max (depth a) (depth_each es)
  depth (conditional l a t b) = 1 + max (depth a) (max (depth t) (depth b))

  pub depth_each : Trees → ℕ
  depth_each none = 0
  depth_each (more a es) = max (depth a) (depth_each es)

  pub depth_pairs : PairTrees → ℕ
  depth_pairs no_pair = 0
  depth_pairs (pair a b ps) = max (max (depth a) (depth b)) (depth_pairs ps)

  pub depth_operands : Operands → ℕ
  depth_operands no_operand = 0
  depth_operands (operand o a os) = max (depth a) (depth_operands os)

  pub depth_maybe : MaybeTree → ℕ
  depth_maybe absent = 0
  depth_maybe (present a) = depth a

abbrev mutual
  pub depth_statement : Statement → ℕ
  depth_statement (pass l) = 1
  depth_statement (break l) = 1
  depth_statement (continue l) = 1
  depth_statement (return l a) = 1 + depth_maybe a
  depth_statement (assign l t a) = 1 + depth a
  depth_statement (augment l n o a) = 1 + depth a
  depth_statement (express l a) = 1 + depth a
  depth_statement (branch l a b t) = 1 + max (depth a) (max (depth_body b) (depth_tail t))
  depth_statement (repeat l t a b) = 1 + max (depth a) (depth_body b)

  pub depth_body : Body → ℕ
  depth_body (line t) = depth_statement t
  depth_body (indented ts) = depth_statements ts

  pub depth_statements : Statements → ℕ
  depth_statements finish = 0
  depth_statements (next t ts) = max (depth_statement t) (depth_statements ts)

  pub depth_tail : Tail → ℕ
  depth_tail nothing = 0
  depth_tail (otherwise b) = depth_body b
  depth_tail (elif a b t) = max (depth a) (max (depth_body b) (depth_tail t))

-- ---- a def, a chain and a lambda add nothing

abbrev pub depth_arg : ArgTree → ℕ
depth_arg (lambda l params a) = depth a
depth_arg (plain a) = depth a

abbrev pub depth_args : List ArgTree → ℕ
depth_args [] = 0
depth_args (x ∷ xs) = max (depth_arg x) (depth_args xs)

abbrev pub depth_head : Option ArgTrees → ℕ
depth_head None = 0
depth_head (Some x) = depth_args x.items

abbrev pub depth_links : List LinkTree → ℕ
depth_links [] = 0
depth_links (x ∷ xs) = max (depth_args x.args.items) (depth_links xs)

abbrev pub depth_chain : ChainTree → ℕ
depth_chain c = max (depth_head c.head.args) (depth_links c.links)

abbrev pub depth_block : BlockTree → ℕ
depth_block (define l n params comma b) = depth_body b
depth_block (pipeline l n c) = depth_chain c
depth_block (alone c) = depth_chain c
