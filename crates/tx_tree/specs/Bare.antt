-- Trees without their lines: `bare` has each line 0. Two trees are equal but for their lines where these are the same.
use Rattle.std.specs.Prelude.{◌≡◌, map, option_map}
use Rattle.tx_tree.specs.declared.target.Word.{Word}
use Rattle.tx_tree.specs.declared.target.Target.{Target}
use Rattle.tx_tree.specs.declared.target.Target.TheVariants as target
use Rattle.tx_tree.specs.Tree.{Tree, nil, truth, int, text, name, paren, tuple, bare_tuple, list, dict, comprehension, call, method, index, slice, unary, binary, compare, negation, conjunction, disjunction, conditional, Trees, none, more, PairTrees, no_pair, pair, Operands, no_operand, operand, MaybeTree, absent, present, Statement, pass, break, continue, return, assign, augment, express, branch, repeat, Body, line, indented, Statements, finish, next, Tail, nothing, otherwise, elif, ArgTree, lambda, plain, ArgTrees, HeadTree, LinkTree, ChainTree, BlockTree, define, pipeline, alone}

abbrev pub bare_word : Word → Word
bare_word w = record { line = 0; text = w.text }

abbrev pub bare_target : Target → Target
bare_target (target.Name w) = target.Name (bare_word w)
bare_target (target.Names ws comma) = target.Names (map bare_word ws) comma
bare_target (target.Bracketed l ws comma) = target.Bracketed 0 (map bare_word ws) comma

abbrev mutual
  pub bare : Tree → Tree
  bare (nil l) = nil 0
  bare (truth l b) = truth 0 b
  bare (int l n) = int 0 n
  bare (text l t) = text 0 t
  bare (name l n) = name 0 n
  bare (paren l a) = paren 0 (bare a)
  bare (tuple l es comma) = tuple 0 (bare_each es) comma
  bare (bare_tuple l es comma) = bare_tuple 0 (bare_each es) comma
  bare (list l es comma) = list 0 (bare_each es) comma
  bare (dict l ps comma) = dict 0 (bare_pairs ps) comma
  bare (comprehension l a t i c) = comprehension 0 (bare a) (bare_target t) (bare i) (bare_maybe c)
  bare (call l n es comma) = call 0 n (bare_each es) comma
  bare (method l a w es comma) = method 0 (bare a) (bare_word w) (bare_each es) comma
  bare (index l a i) = index 0 (bare a) (bare i)
  bare (slice l a i j) = slice 0 (bare a) (bare_maybe i) (bare_maybe j)
  bare (unary l o a) = unary 0 o (bare a)
  bare (binary l a o b) = binary 0 (bare a) o (bare b)
  bare (compare l a os) = compare 0 (bare a) (bare_operands os)
  bare (negation l a) = negation 0 (bare a)
  bare (conjunction l a es) = conjunction 0 (bare a) (bare_each es)
  bare (disjunction l a es) = disjunction 0 (bare a) (bare_each es)
  bare (conditional l a t b) = conditional 0 (bare a) (bare t) (bare b)

  pub bare_each : Trees → Trees
  bare_each none = none
  bare_each (more a es) = more (bare a) (bare_each es)

  pub bare_pairs : PairTrees → PairTrees
  bare_pairs no_pair = no_pair
  bare_pairs (pair a b ps) = pair (bare a) (bare b) (bare_pairs ps)

  pub bare_operands : Operands → Operands
  bare_operands no_operand = no_operand
  bare_operands (operand o a os) = operand o (bare a) (bare_operands os)

  pub bare_maybe : MaybeTree → MaybeTree
  bare_maybe absent = absent
  bare_maybe (present a) = present (bare a)

abbrev mutual
  pub bare_statement : Statement → Statement
  bare_statement (pass l) = pass 0
  bare_statement (break l) = break 0
  bare_statement (continue l) = continue 0
  bare_statement (return l a) = return 0 (bare_maybe a)
  bare_statement (assign l t a) = assign 0 (bare_target t) (bare a)
  bare_statement (augment l n o a) = augment 0 n o (bare a)
  bare_statement (express l a) = express 0 (bare a)
  bare_statement (branch l a b t) = branch 0 (bare a) (bare_body b) (bare_tail t)
  bare_statement (repeat l t a b) = repeat 0 (bare_target t) (bare a) (bare_body b)

  pub bare_body : Body → Body
  bare_body (line t) = line (bare_statement t)
  bare_body (indented ts) = indented (bare_statements ts)

  pub bare_statements : Statements → Statements
  bare_statements finish = finish
  bare_statements (next t ts) = next (bare_statement t) (bare_statements ts)

  pub bare_tail : Tail → Tail
  bare_tail nothing = nothing
  bare_tail (otherwise b) = otherwise (bare_body b)
  bare_tail (elif a b t) = elif (bare a) (bare_body b) (bare_tail t)

abbrev pub bare_arg : ArgTree → ArgTree
bare_arg (lambda l params a) = lambda 0 params (bare a)
bare_arg (plain a) = plain (bare a)

abbrev pub bare_args : ArgTrees → ArgTrees
bare_args x = record { items = map bare_arg x.items; comma = x.comma }

abbrev pub bare_head : HeadTree → HeadTree
bare_head h = record { word = bare_word h.word; args = option_map bare_args h.args }

abbrev pub bare_link : LinkTree → LinkTree
bare_link x = record { line = 0; word = bare_word x.word; args = bare_args x.args }

abbrev pub bare_chain : ChainTree → ChainTree
bare_chain c = record { line = 0; in_brackets = c.in_brackets; head = bare_head c.head; links = map bare_link c.links }

abbrev pub bare_block : BlockTree → BlockTree
bare_block (define l n params comma b) = define 0 n params comma (bare_body b)
bare_block (pipeline l n c) = pipeline 0 n (bare_chain c)
bare_block (alone c) = alone (bare_chain c)

-- equality without lines
abbrev pub Alike : BlockTree → BlockTree → Type 0
Alike b c = bare_block b ≡ bare_block c
