-- How many tokens a spelling has, counted along the tree.
use Rattle.std.specs.Prelude.{ℕ, zero, suc, ◌+◌, Bool, true, false, List, [], ◌∷◌, Option, Some, None, length}
use Rattle.tx_tree.specs.declared.operator.CompareOp.{CompareOp}
use Rattle.tx_tree.specs.declared.operator.CompareOp.TheVariants as op
use Rattle.tx_tree.specs.declared.target.Target.{Target}
use Rattle.tx_tree.specs.declared.target.Target.TheVariants as target
use Rattle.tx_tree.specs.Tree.{Tree, nil, truth, int, text, name, paren, tuple, bare_tuple, list, dict, comprehension, call, method, index, slice, unary, binary, compare, negation, conjunction, disjunction, conditional, Trees, none, more, PairTrees, no_pair, pair, Operands, no_operand, operand, MaybeTree, absent, present, Statement, pass, break, continue, return, assign, augment, express, branch, repeat, Body, line, indented, Statements, finish, next, Tail, nothing, otherwise, elif, ArgTree, lambda, plain, ArgTrees, HeadTree, LinkTree, ChainTree, BlockTree, define, pipeline, alone}

-- the commas between so many items, and behind the last
abbrev pub count_comma : Bool → ℕ
count_comma true = 1
count_comma false = 0

abbrev pub count_between : ℕ → ℕ
count_between zero = 0
count_between (suc n) = n

abbrev pub count_commas : ℕ → Bool → ℕ
count_commas n comma = count_between n + count_comma comma

abbrev pub count_names : List (List ℕ) → Bool → ℕ
count_names ns comma = length ns + count_commas (length ns) comma

abbrev pub count_target : Target → ℕ
count_target (target.Name w) = 1
count_target (target.Names ws comma) = length ws + count_commas (length ws) comma
count_target (target.Bracketed l ws comma) = 2 + (length ws + count_commas (length ws) comma)

abbrev pub count_op : CompareOp → ℕ
count_op op.NotIn = 2
count_op op.IsNot = 2
count_op _ = 1

abbrev pub size : Trees → ℕ
size none = 0
size (more a es) = suc (size es)

abbrev pub pairs_size : PairTrees → ℕ
pairs_size no_pair = 0
pairs_size (pair a b ps) = suc (pairs_size ps)

abbrev mutual
  pub count : Tree → ℕ
  count (nil l) = 1
  count (truth l b) = 1
  count (int l n) = 1
  count (text l t) = 1
  count (name l n) = 1
  count (paren l a) = 2 + count a
  count (tuple l es comma) = 2 + (count_each es + count_commas (size es) comma)
  count (bare_tuple l es comma) = count_each es + count_commas (size es) comma
  count (list l es comma) = 2 + (count_each es + count_commas (size es) comma)
  count (dict l ps comma) = 2 + (count_pairs ps + count_commas (pairs_size ps) comma)
  count (comprehension l a t i c) = 4 + (count a + (count_target t + (count i + count_condition c)))
  count (call l n es comma) = 3 + (count_each es + count_commas (size es) comma)
  count (method l a w es comma) = 4 + (count a + (count_each es + count_commas (size es) comma))
  count (index l a i) = 2 + (count a + count i)
  count (slice l a i j) = 3 + (count a + (count_maybe i + count_maybe j))
  count (unary l o a) = 1 + count a
  count (binary l a o b) = 1 + (count a + count b)
  count (compare l a os) = count a + count_operands os
  count (negation l a) = 1 + count a
  count (conjunction l a es) = count a + (count_each es + size es)
  count (disjunction l a es) = count a + (count_each es + size es)
  count (conditional l a t b) = 2 + (count a + (count t + count b))

  pub count_each : Trees → ℕ
  count_each none = 0
  count_each (more a es) = count a + count_each es

  -- each pair with its colon
  pub count_pairs : PairTrees → ℕ
  count_pairs no_pair = 0
  count_pairs (pair a b ps) = (1 + (count a + count b)) + count_pairs ps

  pub count_operands : Operands → ℕ
  count_operands no_operand = 0
  count_operands (operand o a os) = (count_op o + count a) + count_operands os

  pub count_maybe : MaybeTree → ℕ
  count_maybe absent = 0
  count_maybe (present a) = count a

  pub count_condition : MaybeTree → ℕ
  count_condition absent = 0
  count_condition (present a) = 1 + count a

abbrev mutual
  pub count_statement : Statement → ℕ
  count_statement (pass l) = 2
  count_statement (break l) = 2
  count_statement (continue l) = 2
  count_statement (return l a) = 2 + count_maybe a
  count_statement (assign l t a) = 2 + (count_target t + count a)
  count_statement (augment l n o a) = 3 + count a
  count_statement (express l a) = 1 + count a
  count_statement (branch l a b t) = 2 + (count a + (count_body b + count_tail t))
  count_statement (repeat l t a b) = 3 + (count_target t + (count a + count_body b))

  pub count_body : Body → ℕ
  count_body (line t) = count_statement t
  count_body (indented ts) = 3 + count_statements ts

  pub count_statements : Statements → ℕ
  count_statements finish = 0
  count_statements (next t ts) = count_statement t + count_statements ts

  pub count_tail : Tail → ℕ
  count_tail nothing = 0
  count_tail (otherwise b) = 2 + count_body b
  count_tail (elif a b t) = (2 + (count a + count_body b)) + count_tail t

abbrev pub count_arg : ArgTree → ℕ
count_arg (lambda l params a) = 2 + (count_names params false + count a)
count_arg (plain a) = count a

abbrev pub sum_of_args : List ArgTree → ℕ
sum_of_args [] = 0
sum_of_args (x ∷ xs) = count_arg x + sum_of_args xs

-- with the brackets
abbrev pub count_args : ArgTrees → ℕ
count_args x = 2 + (sum_of_args x.items + count_commas (length x.items) x.comma)

abbrev pub count_head_args : Option ArgTrees → ℕ
count_head_args None = 0
count_head_args (Some x) = count_args x

abbrev pub count_head : HeadTree → ℕ
count_head h = 1 + count_head_args h.args

abbrev pub count_links : List LinkTree → ℕ
count_links [] = 0
count_links (x ∷ xs) = (2 + count_args x.args) + count_links xs

abbrev pub count_brackets : Bool → ℕ
count_brackets true = 2
count_brackets false = 0

abbrev pub count_chain : ChainTree → ℕ
count_chain c = count_brackets c.in_brackets + (count_head c.head + count_links c.links)

abbrev pub count_block : BlockTree → ℕ
count_block (define l n params comma b) = 5 + (count_names params comma + count_body b)
count_block (pipeline l n c) = 3 + count_chain c
count_block (alone c) = 1 + count_chain c
