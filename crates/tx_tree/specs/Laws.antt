-- What holds of the definitions alone: an example of the spelling of each node, beside the production of the Python Language
-- Reference that it comes from (the number is that of the section); and that lines say nothing of a tree but where it stands.
use Rattle.std.specs.Prelude.{◌≡◌, ◌++◌, ℕ, pos, Bool, true, false, List, [], ◌∷◌, Some, None, codes}
use Rattle.tx_tree.specs.declared.operator.BinaryOp.TheVariants.{Add, Sub, Mul, FloorDiv, Mod}
use Rattle.tx_tree.specs.declared.operator.UnaryOp.TheVariants as unary_op
use Rattle.tx_tree.specs.declared.operator.CompareOp.TheVariants as op
use Rattle.tx_tree.specs.declared.target.Word.{Word}
use Rattle.tx_tree.specs.declared.target.Target.TheVariants as target
use Rattle.tx_tree.specs.Words.{keyword_word, mark_word}
use Rattle.tx_tree.specs.Kind.{Kind, named, keyword, number, quoted, mark, newline, indent, dedent}
use Rattle.tx_tree.specs.Tree.{Tree, nil, truth, int, text, name, paren, tuple, bare_tuple, list, dict, comprehension, call, method, index, slice, unary, binary, compare, negation, conjunction, disjunction, conditional, Trees, none, more, no_pair, pair, no_operand, operand, absent, present, Statement, pass, break, continue, return, assign, augment, express, branch, repeat, Body, line, indented, finish, next, nothing, otherwise, elif, lambda, plain, ArgTrees, ChainTree, BlockTree, define, pipeline, alone}
use Rattle.tx_tree.specs.Spell.{spell, spell_statement, spelling}
use Rattle.tx_tree.specs.Form.{well_formed}
use Rattle.tx_tree.specs.Depth.{depth_block}
use Rattle.tx_tree.specs.Bare.{bare_block}

-- a token as it is written; an integer, a text and the layout by the names that the grammar has for them
abbrev pub written : Kind → List ℕ
written (named n) = n
written (keyword k) = keyword_word k
written (number n) = codes "INT"
written (quoted t) = codes "TEXT"
written (mark m) = mark_word m
written newline = codes "NEWLINE"
written indent = codes "INDENT"
written dedent = codes "DEDENT"

abbrev pub space : ℕ
space = 32

-- tokens with a space between them
abbrev pub flat : List Kind → List ℕ
flat [] = []
flat (k ∷ []) = written k
flat (k ∷ l ∷ ks) = written k ++ (space ∷ flat (l ∷ ks))

abbrev pub Shows : Tree → List ℕ → Type 0
Shows t shape = flat (spell t []) ≡ shape

abbrev pub Tells : Statement → List ℕ → Type 0
Tells t shape = flat (spell_statement t []) ≡ shape

abbrev pub Stands : BlockTree → List ℕ → Type 0
Stands tree shape = flat (spelling tree) ≡ shape

-- ---- the parts of the examples

abbrev pub a : Tree
a = name 0 (codes "a")

abbrev pub b : Tree
b = name 0 (codes "b")

abbrev pub c : Tree
c = name 0 (codes "c")

abbrev pub word : List ℕ → Word
word n = record { line = 0; text = n }

abbrev pub one : Trees
one = more a none

abbrev pub two : Trees
two = more a (more b none)

abbrev pub body : Body
body = line (pass 0)

abbrev pub block : Body
block = indented (next (pass 0) (next (express 0 a) finish))

abbrev pub no_args : ArgTrees
no_args = record { items = []; comma = false }

abbrev pub two_args : ArgTrees
two_args = record { items = plain a ∷ lambda 0 (codes "x" ∷ []) b ∷ []; comma = true }

abbrev pub chain : Bool → ChainTree
chain in_brackets = record { line = 0; in_brackets = in_brackets; head = record { word = word (codes "csv"); args = Some two_args }; links = record { line = 0; word = word (codes "unique"); args = no_args } ∷ [] }

abbrev pub named_chain : ChainTree
named_chain = record { line = 0; in_brackets = false; head = record { word = word (codes "p"); args = None }; links = [] }

-- ---- expressions

pub record ExpressionExamples : Type 0 where
  -- 6.13 conditional_expression: or_test ["if" or_test "else" expression]
  pub conditional_expression : Shows (conditional 0 a b c) (codes "a if b else c")
  -- 6.11 or_test: and_test | or_test "or" and_test
  pub or_test : Shows (disjunction 0 a (more b (more c none))) (codes "a or b or c")
  -- 6.11 and_test: not_test | and_test "and" not_test
  pub and_test : Shows (conjunction 0 a (more b (more c none))) (codes "a and b and c")
  -- 6.11 not_test: comparison | "not" not_test
  pub not_test : Shows (negation 0 a) (codes "not a")
  -- 6.10 comparison: or_expr (comp_operator or_expr)*
  pub comparison : Shows (compare 0 a (operand op.Less b (operand op.NotEqual c no_operand))) (codes "a < b != c")
  -- 6.10 comp_operator: "<" | ">" | "==" | ">=" | "<=" | "!=" | "is" ["not"] | ["not"] "in"
  pub comp_operator : Shows (compare 0 a (operand op.Greater b (operand op.Equal b (operand op.GreaterEqual b (operand op.LessEqual b no_operand))))) (codes "a > b == b >= b <= b")
  pub comp_words : Shows (compare 0 a (operand op.Is (nil 0) (operand op.IsNot (nil 0) (operand op.In b (operand op.NotIn c no_operand))))) (codes "a is None is not None in b not in c")
  -- 6.7 a_expr: m_expr | a_expr "+" m_expr | a_expr "-" m_expr
  pub a_expr : Shows (binary 0 (binary 0 a Add b) Sub c) (codes "a + b - c")
  -- 6.7 m_expr: u_expr | m_expr "*" u_expr | m_expr "//" u_expr | m_expr "%" u_expr
  pub m_expr : Shows (binary 0 (binary 0 (binary 0 a Mul b) FloorDiv c) Mod a) (codes "a * b // c % a")
  -- 6.6 u_expr: power | "-" u_expr | "+" u_expr
  pub u_expr : Shows (unary 0 unary_op.Minus (unary 0 unary_op.Plus a)) (codes "- + a")
  -- 6.3.1 attributeref: primary "." identifier, 6.3.4 call: primary "(" [argument_list [","]] ")"
  pub method_call : Shows (method 0 a (word (codes "find")) two true) (codes "a . find ( a , b , )")
  pub call_by_name : Shows (call 0 (codes "f") two false) (codes "f ( a , b )")
  pub call_without_arguments : Shows (call 0 (codes "f") none false) (codes "f ( )")
  -- 6.3.2 subscription: primary "[" expression_list "]"
  pub subscription : Shows (index 0 a b) (codes "a [ b ]")
  -- 6.3.3 proper_slice: [lower_bound] ":" [upper_bound]
  pub slicing : Shows (slice 0 a (present b) (present c)) (codes "a [ b : c ]")
  pub slicing_without_bounds : Shows (slice 0 a absent absent) (codes "a [ : ]")
  -- 6.2.1 identifier, 6.2.2 literal: stringliteral | integer
  pub identifier : Shows a (codes "a")
  pub integer : Shows (int 0 (pos 7)) (codes "INT")
  pub stringliteral : Shows (text 0 (codes "x")) (codes "TEXT")
  -- 2.3.1 keywords: None, True, False
  pub none_keyword : Shows (nil 0) (codes "None")
  pub true_keyword : Shows (truth 0 true) (codes "True")
  pub false_keyword : Shows (truth 0 false) (codes "False")
  -- 6.2.3 parenth_form: "(" [starred_expression] ")"
  pub parenth_form : Shows (paren 0 a) (codes "( a )")
  pub empty_tuple : Shows (tuple 0 none false) (codes "( )")
  pub tuple_of_one : Shows (tuple 0 one true) (codes "( a , )")
  pub tuple_of_two : Shows (tuple 0 two false) (codes "( a , b )")
  -- 6.2.5 list_display: "[" [starred_list | comprehension] "]"
  pub list_display : Shows (list 0 two true) (codes "[ a , b , ]")
  -- 6.2.4 comprehension: assignment_expression comp_for, comp_for: "for" target_list "in" or_test [comp_iter]
  pub comp_for : Shows (comprehension 0 a (target.Name (word (codes "x"))) b absent) (codes "[ a for x in b ]")
  -- 6.2.4 comp_if: "if" or_test [comp_iter]
  pub comp_if : Shows (comprehension 0 a (target.Names (word (codes "x") ∷ word (codes "y") ∷ []) false) b (present c)) (codes "[ a for x , y in b if c ]")
  -- 6.2.7 dict_display: "{" [dict_item_list] "}", dict_item: expression ":" expression
  pub dict_display : Shows (dict 0 (pair a b (pair b c no_pair)) true) (codes "{ a : b , b : c , }")
  pub empty_dict : Shows (dict 0 no_pair false) (codes "{ }")
  -- 6.15 expression_list: expression ("," expression)* [","]
  pub expression_list : Shows (bare_tuple 0 two true) (codes "a , b ,")

-- ---- statements

pub record StatementExamples : Type 0 where
  -- 7.4 pass_stmt, 7.9 break_stmt, 7.10 continue_stmt
  pub pass_stmt : Tells (pass 0) (codes "pass NEWLINE")
  pub break_stmt : Tells (break 0) (codes "break NEWLINE")
  pub continue_stmt : Tells (continue 0) (codes "continue NEWLINE")
  -- 7.6 return_stmt: "return" [expression_list]
  pub return_stmt : Tells (return 0 (present a)) (codes "return a NEWLINE")
  pub return_none : Tells (return 0 absent) (codes "return NEWLINE")
  -- 7.2 assignment_stmt: (target_list "=")+ starred_expression
  pub assignment_stmt : Tells (assign 0 (target.Name (word (codes "x"))) a) (codes "x = a NEWLINE")
  -- 7.2 target_list: target ("," target)* [","], target: "(" [target_list] ")"
  pub target_list : Tells (assign 0 (target.Names (word (codes "x") ∷ []) true) a) (codes "x , = a NEWLINE")
  pub target_in_brackets : Tells (assign 0 (target.Bracketed 0 (word (codes "x") ∷ word (codes "y") ∷ []) false) a) (codes "( x , y ) = a NEWLINE")
  -- 7.2.1 augmented_assignment_stmt: augtarget augop expression_list
  pub augop : Tells (augment 0 (codes "x") Add a) (codes "x += a NEWLINE")
  pub augop_sub : Tells (augment 0 (codes "x") Sub a) (codes "x -= a NEWLINE")
  pub augop_mul : Tells (augment 0 (codes "x") Mul a) (codes "x *= a NEWLINE")
  pub augop_div : Tells (augment 0 (codes "x") FloorDiv a) (codes "x //= a NEWLINE")
  pub augop_mod : Tells (augment 0 (codes "x") Mod a) (codes "x %= a NEWLINE")
  -- 7.1 expression_stmt
  pub expression_stmt : Tells (express 0 a) (codes "a NEWLINE")
  -- 8.1 if_stmt: "if" expression ":" suite ("elif" expression ":" suite)* ["else" ":" suite]
  pub if_stmt : Tells (branch 0 a body nothing) (codes "if a : pass NEWLINE")
  pub elif_else : Tells (branch 0 a body (elif b body (otherwise body))) (codes "if a : pass NEWLINE elif b : pass NEWLINE else : pass NEWLINE")
  -- 8.3 for_stmt: "for" target_list "in" starred_list ":" suite, 8 suite: NEWLINE INDENT statement+ DEDENT
  pub for_stmt : Tells (repeat 0 (target.Name (word (codes "x"))) a block) (codes "for x in a : NEWLINE INDENT pass NEWLINE a NEWLINE DEDENT")

-- ---- blocks; chains are calls of methods (6.3.4) in the reference

pub record BlockExamples : Type 0 where
  -- 8.7 funcdef: "def" funcname "(" [parameter_list] ")" ":" suite
  pub funcdef : Stands (define 0 (codes "f") (codes "x" ∷ codes "y" ∷ []) true body) (codes "def f ( x , y , ) : pass NEWLINE")
  pub funcdef_without_parameters : Stands (define 0 (codes "f") [] false block) (codes "def f ( ) : NEWLINE INDENT pass NEWLINE a NEWLINE DEDENT")
  -- 6.14 lambda_expr: "lambda" [parameter_list] ":" expression
  pub lambda_expr : Stands (alone (chain false)) (codes "csv ( a , lambda x : b , ) . unique ( ) NEWLINE")
  -- 6.2.3 parenth_form
  pub chain_in_brackets : Stands (alone (chain true)) (codes "( csv ( a , lambda x : b , ) . unique ( ) ) NEWLINE")
  -- 7.2 assignment_stmt
  pub chain_with_a_name : Stands (pipeline 0 (codes "q") named_chain) (codes "q = p NEWLINE")

pub record SpellingLaw : Type 0 where
  pub expressions : ExpressionExamples
  pub statements : StatementExamples
  pub blocks : BlockExamples

-- ---- lines

-- the spelling, the depth and well-formedness of a tree are those of the tree without its lines
pub record LinesLaw : Type 0 where
  pub same_spelling : (t : BlockTree) → spelling (bare_block t) ≡ spelling t
  pub same_depth : (t : BlockTree) → depth_block (bare_block t) ≡ depth_block t
  pub same_form : (t : BlockTree) → well_formed (bare_block t) ≡ well_formed t
