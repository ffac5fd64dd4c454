-- The spelling of trees with their lines: what stands between two ends of a list of lexemes. A clause has the parts of its
-- node in the grammar's order; the line of a node is that of its first lexeme, and a word keeps its own.
use Rattle.std.specs.Prelude.{◌≡◌, ℕ, Bool, true, false, List, [], ◌∷◌, Option, Some, None}
use Rattle.tx_tree.specs.declared.operator.CompareOp.{CompareOp}
use Rattle.tx_tree.specs.declared.operator.CompareOp.TheVariants as op
use Rattle.tx_tree.specs.declared.symbol.Keyword.{Keyword}
use Rattle.tx_tree.specs.declared.symbol.Keyword.TheVariants as word
use Rattle.tx_tree.specs.declared.symbol.Keyword.TheVariants.{And, Break, Continue, Def, Elif, Else, For, If, In, Is, Lambda, Not, Or, Pass, Return}
use Rattle.tx_tree.specs.declared.symbol.Mark.TheVariants.{Open, Close, OpenSquare, CloseSquare, OpenBrace, CloseBrace, Comma, Colon, Dot, Assign}
use Rattle.tx_tree.specs.declared.symbol.Mark.TheVariants as sign
use Rattle.tx_tree.specs.declared.target.Word.{Word}
use Rattle.tx_tree.specs.declared.target.Target.{Target}
use Rattle.tx_tree.specs.declared.target.Target.TheVariants as target
use Rattle.tx_tree.specs.Words.{binary_mark, augment_mark, unary_mark}
use Rattle.tx_tree.specs.Kind.{Kind, named, keyword, number, quoted, mark, newline, indent, dedent}
use Rattle.tx_tree.specs.Spell.{truth_word}
use Rattle.tx_tree.specs.Tree.{Tree, nil, truth, int, text, name, paren, tuple, bare_tuple, list, dict, comprehension, call, method, index, slice, unary, binary, compare, negation, conjunction, disjunction, conditional, Trees, none, more, PairTrees, no_pair, pair, Operands, no_operand, operand, MaybeTree, absent, present, Statement, pass, break, continue, return, assign, augment, express, branch, repeat, Body, line, indented, Statements, finish, next, Tail, nothing, otherwise, elif, ArgTree, lambda, plain, ArgTrees, HeadTree, LinkTree, ChainTree, BlockTree, define, pipeline, alone}
use Rattle.tx_parse.specs.Lexemes.{Lexeme, lexeme, line_at}

-- what stands in a list ahead of a rest of it
abbrev pub Span : Type 1
Span = List Lexeme → List Lexeme → Type 0

-- one lexeme, on this line
abbrev pub one : Kind → ℕ → Span
one kind l ts r = ts ≡ lexeme kind l ∷ r

-- one lexeme, on any line
pub record Lone (kind : Kind) (ts r : List Lexeme) : Type 0 where
  pub at : ℕ
  pub same : ts ≡ lexeme kind at ∷ r

-- one span, and another behind it
pub record Seq (A B : Span) (ts r : List Lexeme) : Type 0 where
  pub between : List Lexeme
  pub before : A ts between
  pub behind : B between r

-- a span whose first lexeme is on this line
pub record On (l : ℕ) (A : Span) (ts r : List Lexeme) : Type 0 where
  pub start : line_at ts ≡ l
  pub span : A ts r

-- ---- names and targets

-- a comma behind the last item, if there is one
abbrev pub SpellsComma : Bool → Span
SpellsComma true = Lone (mark Comma)
SpellsComma false = ◌≡◌

-- a name with its line
abbrev pub SpellsWord : Word → Span
SpellsWord w = one (named w.text) w.line

-- items behind the first one, each behind a comma
abbrev pub SpellsMore : {A : Type 0} → (A → Span) → List A → Bool → Span
SpellsMore item [] comma = SpellsComma comma
SpellsMore item (x ∷ xs) comma = Seq (Lone (mark Comma)) (Seq (item x) (SpellsMore item xs comma))

-- items with commas between them
abbrev pub SpellsList : {A : Type 0} → (A → Span) → List A → Bool → Span
SpellsList item [] comma = SpellsComma comma
SpellsList item (x ∷ xs) comma = Seq (item x) (SpellsMore item xs comma)

-- parameters keep no lines
abbrev pub SpellsNames : List (List ℕ) → Bool → Span
SpellsNames = SpellsList (λ n. Lone (named n))

-- target = NAME | names | "(" names ")"
abbrev pub SpellsTarget : Target → Span
SpellsTarget (target.Name w) = SpellsWord w
SpellsTarget (target.Names ws comma) = SpellsList SpellsWord ws comma
SpellsTarget (target.Bracketed l ws comma) = Seq (one (mark Open) l) (Seq (SpellsList SpellsWord ws comma) (Lone (mark Close)))

-- ---- expressions

-- op = "==" | "!=" | "<" | "<=" | ">" | ">=" | "in" | "not" "in" | "is" | "is" "not"
abbrev pub SpellsOp : CompareOp → Span
SpellsOp op.Equal = Lone (mark sign.Equal)
SpellsOp op.NotEqual = Lone (mark sign.NotEqual)
SpellsOp op.Less = Lone (mark sign.Less)
SpellsOp op.LessEqual = Lone (mark sign.LessEqual)
SpellsOp op.Greater = Lone (mark sign.Greater)
SpellsOp op.GreaterEqual = Lone (mark sign.GreaterEqual)
SpellsOp op.In = Lone (keyword In)
SpellsOp op.NotIn = Seq (Lone (keyword Not)) (Lone (keyword In))
SpellsOp op.Is = Lone (keyword Is)
SpellsOp op.IsNot = Seq (Lone (keyword Is)) (Lone (keyword Not))

abbrev mutual
  pub Spells : Tree → Span
  -- test = or ["if" or "else" test]
  Spells (conditional l a t b) = On l (Seq (Spells a) (Seq (Lone (keyword If)) (Seq (Spells t) (Seq (Lone (keyword Else)) (Spells b)))))
  -- or = and ("or" and)*
  Spells (disjunction l a es) = On l (Seq (Spells a) (SpellsBehind Or es))
  -- and = not ("and" not)*
  Spells (conjunction l a es) = On l (Seq (Spells a) (SpellsBehind And es))
  -- not = "not" not
  Spells (negation l a) = Seq (one (keyword Not) l) (Spells a)
  -- compare = sum (op sum)*
  Spells (compare l a os) = On l (Seq (Spells a) (SpellsOperands os))
  -- sum = term (("+" | "-") term)*, term = unary (("*" | "//" | "%") unary)*
  Spells (binary l a o b) = On l (Seq (Spells a) (Seq (Lone (mark (binary_mark o))) (Spells b)))
  -- unary = ("-" | "+") unary
  Spells (unary l o a) = Seq (one (mark (unary_mark o)) l) (Spells a)
  -- postfix = atom ( "." NAME "(" tests ")" | "[" test "]" | "[" [test] ":" [test] "]" )*
  Spells (method l a w es comma) = On l (Seq (Spells a) (Seq (Lone (mark Dot)) (Seq (SpellsWord w) (Seq (Lone (mark Open)) (Seq (SpellsItems es comma) (Lone (mark Close)))))))
  Spells (index l a i) = On l (Seq (Spells a) (Seq (Lone (mark OpenSquare)) (Seq (Spells i) (Lone (mark CloseSquare)))))
  Spells (slice l a i j) = On l (Seq (Spells a) (Seq (Lone (mark OpenSquare)) (Seq (SpellsMaybe i) (Seq (Lone (mark Colon)) (Seq (SpellsMaybe j) (Lone (mark CloseSquare)))))))
  -- atom = NAME | NAME "(" tests ")" | INT | TEXT | "None" | "True" | "False"
  Spells (name l n) = one (named n) l
  Spells (call l n es comma) = Seq (one (named n) l) (Seq (Lone (mark Open)) (Seq (SpellsItems es comma) (Lone (mark Close))))
  Spells (int l n) = one (number n) l
  Spells (text l t) = one (quoted t) l
  Spells (nil l) = one (keyword word.None) l
  Spells (truth l b) = one (keyword (truth_word b)) l
  --      | "(" test ")" | "(" ")" | "(" test "," ")" | "(" test ("," test)+ [","] ")"
  Spells (paren l a) = Seq (one (mark Open) l) (Seq (Spells a) (Lone (mark Close)))
  Spells (tuple l es comma) = Seq (one (mark Open) l) (Seq (SpellsItems es comma) (Lone (mark Close)))
  --      | "[" tests "]" | "[" test "for" target "in" or ["if" or] "]"
  Spells (list l es comma) = Seq (one (mark OpenSquare) l) (Seq (SpellsItems es comma) (Lone (mark CloseSquare)))
  Spells (comprehension l a t i c) = Seq (one (mark OpenSquare) l) (Seq (Spells a) (Seq (Lone (keyword For)) (Seq (SpellsTarget t) (Seq (Lone (keyword In)) (Seq (Spells i) (Seq (SpellsCondition c) (Lone (mark CloseSquare))))))))
  --      | "{" [ test ":" test ("," test ":" test)* [","] ] "}"
  Spells (dict l ps comma) = Seq (one (mark OpenBrace) l) (Seq (SpellsPairs ps comma) (Lone (mark CloseBrace)))
  -- tests1 = test "," | test ("," test)+ [","]
  Spells (bare_tuple l es comma) = On l (SpellsItems es comma)

  -- tests = [ test ("," test)* [","] ]
  pub SpellsItems : Trees → Bool → Span
  SpellsItems none comma = SpellsComma comma
  SpellsItems (more a es) comma = Seq (Spells a) (SpellsMoreItems es comma)

  pub SpellsMoreItems : Trees → Bool → Span
  SpellsMoreItems none comma = SpellsComma comma
  SpellsMoreItems (more a es) comma = Seq (Lone (mark Comma)) (Seq (Spells a) (SpellsMoreItems es comma))

  pub SpellsPairs : PairTrees → Bool → Span
  SpellsPairs no_pair comma = SpellsComma comma
  SpellsPairs (pair a b ps) comma = Seq (Seq (Spells a) (Seq (Lone (mark Colon)) (Spells b))) (SpellsMorePairs ps comma)

  pub SpellsMorePairs : PairTrees → Bool → Span
  SpellsMorePairs no_pair comma = SpellsComma comma
  SpellsMorePairs (pair a b ps) comma = Seq (Lone (mark Comma)) (Seq (Seq (Spells a) (Seq (Lone (mark Colon)) (Spells b))) (SpellsMorePairs ps comma))

  -- operands behind the first one, each behind `and` or `or`
  pub SpellsBehind : Keyword → Trees → Span
  SpellsBehind w none = ◌≡◌
  SpellsBehind w (more a es) = Seq (Lone (keyword w)) (Seq (Spells a) (SpellsBehind w es))

  pub SpellsOperands : Operands → Span
  SpellsOperands no_operand = ◌≡◌
  SpellsOperands (operand o a os) = Seq (SpellsOp o) (Seq (Spells a) (SpellsOperands os))

  pub SpellsMaybe : MaybeTree → Span
  SpellsMaybe absent = ◌≡◌
  SpellsMaybe (present a) = Spells a

  -- the condition of a comprehension
  pub SpellsCondition : MaybeTree → Span
  SpellsCondition absent = ◌≡◌
  SpellsCondition (present a) = Seq (Lone (keyword If)) (Spells a)

-- ---- statements

abbrev mutual
  pub SpellsStatement : Statement → Span
  -- stmt = simple NEWLINE, simple = "pass" | "break" | "continue" | "return" [tests1]
  SpellsStatement (pass l) = Seq (one (keyword Pass) l) (Lone newline)
  SpellsStatement (break l) = Seq (one (keyword Break) l) (Lone newline)
  SpellsStatement (continue l) = Seq (one (keyword Continue) l) (Lone newline)
  SpellsStatement (return l a) = Seq (one (keyword Return) l) (Seq (SpellsMaybe a) (Lone newline))
  --      | target "=" tests1 | NAME ("+=" | "-=" | "*=" | "//=" | "%=") test | test
  SpellsStatement (assign l t a) = On l (Seq (SpellsTarget t) (Seq (Lone (mark Assign)) (Seq (Spells a) (Lone newline))))
  SpellsStatement (augment l n o a) = Seq (one (named n) l) (Seq (Lone (mark (augment_mark o))) (Seq (Spells a) (Lone newline)))
  SpellsStatement (express l a) = On l (Seq (Spells a) (Lone newline))
  --      | "if" test ":" suite ("elif" test ":" suite)* ["else" ":" suite]
  SpellsStatement (branch l a b t) = Seq (one (keyword If) l) (Seq (Spells a) (Seq (Lone (mark Colon)) (Seq (SpellsBody b) (SpellsTail t))))
  --      | "for" target "in" test ":" suite
  SpellsStatement (repeat l t a b) = Seq (one (keyword For) l) (Seq (SpellsTarget t) (Seq (Lone (keyword In)) (Seq (Spells a) (Seq (Lone (mark Colon)) (SpellsBody b)))))

  -- suite = simple NEWLINE | NEWLINE INDENT stmt+ DEDENT
  pub SpellsBody : Body → Span
  SpellsBody (line t) = SpellsStatement t
  SpellsBody (indented ts) = Seq (Lone newline) (Seq (Lone indent) (Seq (SpellsStatements ts) (Lone dedent)))

  pub SpellsStatements : Statements → Span
  SpellsStatements finish = ◌≡◌
  SpellsStatements (next t ts) = Seq (SpellsStatement t) (SpellsStatements ts)

  pub SpellsTail : Tail → Span
  SpellsTail nothing = ◌≡◌
  SpellsTail (otherwise b) = Seq (Lone (keyword Else)) (Seq (Lone (mark Colon)) (SpellsBody b))
  SpellsTail (elif a b t) = Seq (Lone (keyword Elif)) (Seq (Spells a) (Seq (Lone (mark Colon)) (Seq (SpellsBody b) (SpellsTail t))))

-- ---- blocks

-- arg = "lambda" params ":" test | test
abbrev pub SpellsArg : ArgTree → Span
SpellsArg (lambda l params a) = Seq (one (keyword Lambda) l) (Seq (SpellsNames params false) (Seq (Lone (mark Colon)) (Spells a)))
SpellsArg (plain a) = Spells a

-- "(" args ")", args = [ arg ("," arg)* [","] ]
abbrev pub SpellsArgs : ArgTrees → Span
SpellsArgs x = Seq (Lone (mark Open)) (Seq (SpellsList SpellsArg x.items x.comma) (Lone (mark Close)))

abbrev pub SpellsHeadArgs : Option ArgTrees → Span
SpellsHeadArgs None = ◌≡◌
SpellsHeadArgs (Some x) = SpellsArgs x

-- head = NAME [ "(" args ")" ]
abbrev pub SpellsHead : HeadTree → Span
SpellsHead h = Seq (SpellsWord h.word) (SpellsHeadArgs h.args)

-- link = "." NAME "(" args ")"
abbrev pub SpellsLink : LinkTree → Span
SpellsLink x = Seq (one (mark Dot) x.line) (Seq (SpellsWord x.word) (SpellsArgs x.args))

abbrev pub SpellsLinks : List LinkTree → Span
SpellsLinks [] = ◌≡◌
SpellsLinks (x ∷ xs) = Seq (SpellsLink x) (SpellsLinks xs)

-- what stands in brackets, or without them
abbrev pub SpellsChainIn : Bool → HeadTree → List LinkTree → Span
SpellsChainIn true h xs = Seq (Lone (mark Open)) (Seq (SpellsHead h) (Seq (SpellsLinks xs) (Lone (mark Close))))
SpellsChainIn false h xs = Seq (SpellsHead h) (SpellsLinks xs)

-- chain = head link* | "(" head link* ")"
abbrev pub SpellsChain : ChainTree → Span
SpellsChain c = On c.line (SpellsChainIn c.in_brackets c.head c.links)

-- block = "def" NAME "(" params ")" ":" suite | NAME "=" chain NEWLINE | chain NEWLINE
abbrev pub SpellsBlock : BlockTree → Span
SpellsBlock (define l n params comma b) = Seq (one (keyword Def) l) (Seq (Lone (named n)) (Seq (Lone (mark Open)) (Seq (SpellsNames params comma) (Seq (Lone (mark Close)) (Seq (Lone (mark Colon)) (SpellsBody b))))))
SpellsBlock (pipeline l n c) = Seq (one (named n) l) (Seq (Lone (mark Assign)) (Seq (SpellsChain c) (Lone newline)))
SpellsBlock (alone c) = Seq (SpellsChain c) (Lone newline)
