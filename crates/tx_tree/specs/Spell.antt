-- The spelling of a tree: the grammar, read from the tree's side. A clause gives the tokens of its node in their order, in
-- front of those that follow, `ks`. Lines are left out.
use Rattle.std.specs.Prelude.{ℕ, Bool, true, false, List, [], ◌∷◌, Option, Some, None, map}
use Rattle.tx_tree.specs.declared.operator.CompareOp.{CompareOp}
use Rattle.tx_tree.specs.declared.operator.CompareOp.TheVariants as op
use Rattle.tx_tree.specs.declared.symbol.Keyword.{Keyword}
use Rattle.tx_tree.specs.declared.symbol.Keyword.TheVariants as word
use Rattle.tx_tree.specs.declared.symbol.Keyword.TheVariants.{And, Break, Continue, Def, Elif, Else, For, If, In, Is, Lambda, Not, Or, Pass, Return}
use Rattle.tx_tree.specs.declared.symbol.Mark.TheVariants.{Open, Close, OpenSquare, CloseSquare, OpenBrace, CloseBrace, Comma, Colon, Dot, Assign}
use Rattle.tx_tree.specs.declared.symbol.Mark.TheVariants as sign
use Rattle.tx_tree.specs.declared.target.Word.{Word}
use Rattle.tx_tree.specs.declared.target.Target.{Target}
use Rattle.tx_tree.specs.declared.target.Target.TheVariants as target
use Rattle.tx_tree.specs.Words.{binary_mark, augment_mark, unary_mark}
use Rattle.tx_tree.specs.Kind.{Kind, named, keyword, number, quoted, mark, newline, indent, dedent}
use Rattle.tx_tree.specs.Tree.{Tree, nil, truth, int, text, name, paren, tuple, bare_tuple, list, dict, comprehension, call, method, index, slice, unary, binary, compare, negation, conjunction, disjunction, conditional, Trees, none, more, PairTrees, no_pair, pair, Operands, no_operand, operand, MaybeTree, absent, present, Statement, pass, break, continue, return, assign, augment, express, branch, repeat, Body, line, indented, Statements, finish, next, Tail, nothing, otherwise, elif, ArgTree, lambda, plain, ArgTrees, HeadTree, LinkTree, ChainTree, BlockTree, define, pipeline, alone}

-- ---- names and targets

-- a comma behind the last item, if there is one
abbrev pub spell_comma : Bool → List Kind → List Kind
spell_comma true ks = mark Comma ∷ ks
spell_comma false ks = ks

-- names behind the first one
abbrev pub spell_more_names : List (List ℕ) → Bool → List Kind → List Kind
spell_more_names [] comma ks = spell_comma comma ks
spell_more_names (n ∷ ns) comma ks = mark Comma ∷ named n ∷ spell_more_names ns comma ks

-- names with commas between them
abbrev pub spell_names : List (List ℕ) → Bool → List Kind → List Kind
spell_names [] comma ks = spell_comma comma ks
spell_names (n ∷ ns) comma ks = named n ∷ spell_more_names ns comma ks

-- the names of words
abbrev pub texts_of : List Word → List (List ℕ)
texts_of = map (λ w. w.text)

-- target = NAME | names | "(" names ")"
abbrev pub spell_target : Target → List Kind → List Kind
spell_target (target.Name w) ks = named w.text ∷ ks
spell_target (target.Names ws comma) ks = spell_names (texts_of ws) comma ks
spell_target (target.Bracketed l ws comma) ks = mark Open ∷ spell_names (texts_of ws) comma (mark Close ∷ ks)

-- ---- expressions

abbrev pub truth_word : Bool → Keyword
truth_word true = word.True
truth_word false = word.False

-- op = "==" | "!=" | "<" | "<=" | ">" | ">=" | "in" | "not" "in" | "is" | "is" "not"
abbrev pub spell_op : CompareOp → List Kind → List Kind
spell_op op.Equal ks = mark sign.Equal ∷ ks
spell_op op.NotEqual ks = mark sign.NotEqual ∷ ks
spell_op op.Less ks = mark sign.Less ∷ ks
spell_op op.LessEqual ks = mark sign.LessEqual ∷ ks
spell_op op.Greater ks = mark sign.Greater ∷ ks
spell_op op.GreaterEqual ks = mark sign.GreaterEqual ∷ ks
spell_op op.In ks = keyword In ∷ ks
spell_op op.NotIn ks = keyword Not ∷ keyword In ∷ ks
spell_op op.Is ks = keyword Is ∷ ks
spell_op op.IsNot ks = keyword Is ∷ keyword Not ∷ ks

abbrev mutual
  pub spell : Tree → List Kind → List Kind
  -- test = or ["if" or "else" test]
  spell (conditional l a t b) ks = spell a (keyword If ∷ spell t (keyword Else ∷ spell b ks))
  -- or = and ("or" and)*
  spell (disjunction l a es) ks = spell a (spell_behind Or es ks)
  -- and = not ("and" not)*
  spell (conjunction l a es) ks = spell a (spell_behind And es ks)
  -- not = "not" not
  spell (negation l a) ks = keyword Not ∷ spell a ks
  -- compare = sum (op sum)*
  spell (compare l a os) ks = spell a (spell_operands os ks)
  -- sum = term (("+" | "-") term)*, term = unary (("*" | "//" | "%") unary)*
  spell (binary l a o b) ks = spell a (mark (binary_mark o) ∷ spell b ks)
  -- unary = ("-" | "+") unary
  spell (unary l o a) ks = mark (unary_mark o) ∷ spell a ks
  -- postfix = atom ( "." NAME "(" tests ")" | "[" test "]" | "[" [test] ":" [test] "]" )*
  spell (method l a w es comma) ks = spell a (mark Dot ∷ named w.text ∷ mark Open ∷ spell_items es comma (mark Close ∷ ks))
  spell (index l a i) ks = spell a (mark OpenSquare ∷ spell i (mark CloseSquare ∷ ks))
  spell (slice l a i j) ks = spell a (mark OpenSquare ∷ spell_maybe i (mark Colon ∷ spell_maybe j (mark CloseSquare ∷ ks)))
  -- atom = NAME | NAME "(" tests ")" | INT | TEXT | "None" | "True" | "False"
  spell (name l n) ks = named n ∷ ks
  spell (call l n es comma) ks = named n ∷ mark Open ∷ spell_items es comma (mark Close ∷ ks)
  spell (int l n) ks = number n ∷ ks
  spell (text l t) ks = quoted t ∷ ks
  spell (nil l) ks = keyword word.None ∷ ks
  spell (truth l b) ks = keyword (truth_word b) ∷ ks
  --      | "(" test ")" | "(" ")" | "(" test "," ")" | "(" test ("," test)+ [","] ")"
  spell (paren l a) ks = mark Open ∷ spell a (mark Close ∷ ks)
  spell (tuple l es comma) ks = mark Open ∷ spell_items es comma (mark Close ∷ ks)
  --      | "[" tests "]" | "[" test "for" target "in" or ["if" or] "]"
  spell (list l es comma) ks = mark OpenSquare ∷ spell_items es comma (mark CloseSquare ∷ ks)
  spell (comprehension l a t i c) ks = mark OpenSquare ∷ spell a (keyword For ∷ spell_target t (keyword In ∷ spell i (spell_condition c (mark CloseSquare ∷ ks))))
  --      | "{" [ test ":" test ("," test ":" test)* [","] ] "}"
  spell (dict l ps comma) ks = mark OpenBrace ∷ spell_pairs ps comma (mark CloseBrace ∷ ks)
  -- tests1 = test "," | test ("," test)+ [","]
  spell (bare_tuple l es comma) ks = spell_items es comma ks

  -- tests = [ test ("," test)* [","] ]
  pub spell_items : Trees → Bool → List Kind → List Kind
  spell_items none comma ks = spell_comma comma ks
  spell_items (more a es) comma ks = spell a (spell_more_items es comma ks)

  pub spell_more_items : Trees → Bool → List Kind → List Kind
  spell_more_items none comma ks = spell_comma comma ks
  spell_more_items (more a es) comma ks = mark Comma ∷ spell a (spell_more_items es comma ks)

  pub spell_pairs : PairTrees → Bool → List Kind → List Kind
  spell_pairs no_pair comma ks = spell_comma comma ks
  spell_pairs (pair a b ps) comma ks = spell a (mark Colon ∷ spell b (spell_more_pairs ps comma ks))

  pub spell_more_pairs : PairTrees → Bool → List Kind → List Kind
  spell_more_pairs no_pair comma ks = spell_comma comma ks
  spell_more_pairs (pair a b ps) comma ks = mark Comma ∷ spell a (mark Colon ∷ spell b (spell_more_pairs ps comma ks))

  -- operands behind the first one, each behind `and` or `or`
  pub spell_behind : Keyword → Trees → List Kind → List Kind
  spell_behind w none ks = ks
  spell_behind w (more a es) ks = keyword w ∷ spell a (spell_behind w es ks)

  pub spell_operands : Operands → List Kind → List Kind
  spell_operands no_operand ks = ks
  spell_operands (operand o a os) ks = spell_op o (spell a (spell_operands os ks))

  pub spell_maybe : MaybeTree → List Kind → List Kind
  spell_maybe absent ks = ks
  spell_maybe (present a) ks = spell a ks

  -- the condition of a comprehension
  pub spell_condition : MaybeTree → List Kind → List Kind
  spell_condition absent ks = ks
  spell_condition (present a) ks = keyword If ∷ spell a ks

-- ---- statements

abbrev mutual
  pub spell_statement : Statement → List Kind → List Kind
  -- stmt = simple NEWLINE, simple = "pass" | "break" | "continue" | "return" [tests1]
  spell_statement (pass l) ks = keyword Pass ∷ newline ∷ ks
  spell_statement (break l) ks = keyword Break ∷ newline ∷ ks
  spell_statement (continue l) ks = keyword Continue ∷ newline ∷ ks
  spell_statement (return l a) ks = keyword Return ∷ spell_maybe a (newline ∷ ks)
  --      | target "=" tests1 | NAME ("+=" | "-=" | "*=" | "//=" | "%=") test | test
  spell_statement (assign l t a) ks = spell_target t (mark Assign ∷ spell a (newline ∷ ks))
  spell_statement (augment l n o a) ks = named n ∷ mark (augment_mark o) ∷ spell a (newline ∷ ks)
  spell_statement (express l a) ks = spell a (newline ∷ ks)
  --      | "if" test ":" suite ("elif" test ":" suite)* ["else" ":" suite]
  spell_statement (branch l a b t) ks = keyword If ∷ spell a (mark Colon ∷ spell_body b (spell_tail t ks))
  --      | "for" target "in" test ":" suite
  spell_statement (repeat l t a b) ks = keyword For ∷ spell_target t (keyword In ∷ spell a (mark Colon ∷ spell_body b ks))

  -- suite = simple NEWLINE | NEWLINE INDENT stmt+ DEDENT
  pub spell_body : Body → List Kind → List Kind
  spell_body (line t) ks = spell_statement t ks
  spell_body (indented ts) ks = newline ∷ indent ∷ spell_statements ts (dedent ∷ ks)

  pub spell_statements : Statements → List Kind → List Kind
  spell_statements finish ks = ks
  spell_statements (next t ts) ks = spell_statement t (spell_statements ts ks)

  pub spell_tail : Tail → List Kind → List Kind
  spell_tail nothing ks = ks
  spell_tail (otherwise b) ks = keyword Else ∷ mark Colon ∷ spell_body b ks
  spell_tail (elif a b t) ks = keyword Elif ∷ spell a (mark Colon ∷ spell_body b (spell_tail t ks))

-- ---- blocks

-- arg = "lambda" params ":" test | test
abbrev pub spell_arg : ArgTree → List Kind → List Kind
spell_arg (lambda l params a) ks = keyword Lambda ∷ spell_names params false (mark Colon ∷ spell a ks)
spell_arg (plain a) ks = spell a ks

abbrev pub spell_more_args : List ArgTree → Bool → List Kind → List Kind
spell_more_args [] comma ks = spell_comma comma ks
spell_more_args (a ∷ more_args) comma ks = mark Comma ∷ spell_arg a (spell_more_args more_args comma ks)

-- args = [ arg ("," arg)* [","] ]
abbrev pub spell_arg_list : List ArgTree → Bool → List Kind → List Kind
spell_arg_list [] comma ks = spell_comma comma ks
spell_arg_list (a ∷ more_args) comma ks = spell_arg a (spell_more_args more_args comma ks)

-- "(" args ")"
abbrev pub spell_args : ArgTrees → List Kind → List Kind
spell_args x ks = mark Open ∷ spell_arg_list x.items x.comma (mark Close ∷ ks)

abbrev pub spell_head_args : Option ArgTrees → List Kind → List Kind
spell_head_args None ks = ks
spell_head_args (Some x) ks = spell_args x ks

-- head = NAME [ "(" args ")" ]
abbrev pub spell_head : HeadTree → List Kind → List Kind
spell_head h ks = named h.word.text ∷ spell_head_args h.args ks

-- link = "." NAME "(" args ")"
abbrev pub spell_link : LinkTree → List Kind → List Kind
spell_link x ks = mark Dot ∷ named x.word.text ∷ spell_args x.args ks

abbrev pub spell_links : List LinkTree → List Kind → List Kind
spell_links [] ks = ks
spell_links (x ∷ xs) ks = spell_link x (spell_links xs ks)

-- what stands in brackets, or without them
abbrev pub spell_chain_in : Bool → HeadTree → List LinkTree → List Kind → List Kind
spell_chain_in true h xs ks = mark Open ∷ spell_head h (spell_links xs (mark Close ∷ ks))
spell_chain_in false h xs ks = spell_head h (spell_links xs ks)

-- chain = head link* | "(" head link* ")"
abbrev pub spell_chain : ChainTree → List Kind → List Kind
spell_chain c ks = spell_chain_in c.in_brackets c.head c.links ks

-- block = "def" NAME "(" params ")" ":" suite | NAME "=" chain NEWLINE | chain NEWLINE
abbrev pub spell_block : BlockTree → List Kind → List Kind
spell_block (define l n params comma b) ks = keyword Def ∷ named n ∷ mark Open ∷ spell_names params comma (mark Close ∷ mark Colon ∷ spell_body b ks)
spell_block (pipeline l n c) ks = named n ∷ mark Assign ∷ spell_chain c (newline ∷ ks)
spell_block (alone c) ks = spell_chain c (newline ∷ ks)

-- the tokens of a block's spelling
abbrev pub spelling : BlockTree → List Kind
spelling b = spell_block b []
