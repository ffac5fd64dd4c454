-- Which trees are well formed. At each node some conditions are asked, whatever its parts; a tree is well formed where they
-- hold at every node.
use Rattle.std.specs.Prelude.{ℕ, suc, ◌^◌, Bool, true, false, not, ◌&&◌, ◌||◌, nat_le, int_lt, int_le, pos, List, [], ◌∷◌, Option, Some, None}
use Rattle.std.specs.List.{list_all, list_any}
use Rattle.tx_tree.specs.declared.operator.BinaryOp.{BinaryOp}
use Rattle.tx_tree.specs.declared.operator.BinaryOp.TheVariants as binary_op
use Rattle.tx_tree.specs.declared.operator.CompareOp.{CompareOp}
use Rattle.tx_tree.specs.declared.operator.CompareOp.TheVariants as op
use Rattle.tx_tree.specs.declared.target.Target.{Target}
use Rattle.tx_tree.specs.declared.target.Target.TheVariants as target
use Rattle.tx_tree.specs.Words.{is_keyword, same_text}
use Rattle.tx_tree.specs.Spell.{texts_of}
use Rattle.tx_tree.specs.Tree.{Tree, nil, truth, int, text, name, paren, tuple, bare_tuple, list, dict, comprehension, call, method, index, slice, unary, binary, compare, negation, conjunction, disjunction, conditional, Trees, none, more, PairTrees, no_pair, pair, Operands, no_operand, operand, MaybeTree, absent, present, Statement, pass, break, continue, return, assign, augment, express, branch, repeat, Body, line, indented, Statements, finish, next, Tail, nothing, otherwise, elif, ArgTree, lambda, plain, ArgTrees, HeadTree, LinkTree, ChainTree, BlockTree, define, pipeline, alone}

-- ---- the productions of an expression, from the loosest: each is one alternative of the one before it

abbrev pub at_tests : ℕ
at_tests = 0

abbrev pub at_test : ℕ
at_test = 1

abbrev pub at_or : ℕ
at_or = 2

abbrev pub at_and : ℕ
at_and = 3

abbrev pub at_not : ℕ
at_not = 4

abbrev pub at_compare : ℕ
at_compare = 5

abbrev pub at_sum : ℕ
at_sum = 6

abbrev pub at_term : ℕ
at_term = 7

abbrev pub at_unary : ℕ
at_unary = 8

abbrev pub at_postfix : ℕ
at_postfix = 9

abbrev pub level_of_op : BinaryOp → ℕ
level_of_op binary_op.Add = at_sum
level_of_op binary_op.Sub = at_sum
level_of_op _ = at_term

-- the production that a tree is of
abbrev pub level : Tree → ℕ
level (bare_tuple l es comma) = at_tests
level (conditional l a t b) = at_test
level (disjunction l a es) = at_or
level (conjunction l a es) = at_and
level (negation l a) = at_not
level (compare l a os) = at_compare
level (binary l a o b) = level_of_op o
level (unary l o a) = at_unary
level _ = at_postfix

-- whether a tree is of the production that its place names, or of a tighter one: a sum is no factor, in brackets it is
abbrev pub fits : ℕ → Tree → Bool
fits place t = nat_le place (level t)

abbrev pub fits_each : ℕ → Trees → Bool
fits_each place none = true
fits_each place (more t ts) = fits place t && fits_each place ts

abbrev pub fits_pairs : PairTrees → Bool
fits_pairs no_pair = true
fits_pairs (pair a b ps) = fits at_test a && (fits at_test b && fits_pairs ps)

abbrev pub fits_operands : Operands → Bool
fits_operands no_operand = true
fits_operands (operand o a os) = fits at_sum a && fits_operands os

abbrev pub fits_maybe : ℕ → MaybeTree → Bool
fits_maybe place absent = true
fits_maybe place (present t) = fits place t

-- ---- lists with commas

-- how many items a list has, as far as it matters
pub data Amount : Type 0 where
  no_item : Amount
  one_item : Amount
  more_items : Amount

abbrev pub amount : {A : Type 0} → List A → Amount
amount [] = no_item
amount (x ∷ []) = one_item
amount (x ∷ y ∷ xs) = more_items

abbrev pub amount_of_trees : Trees → Amount
amount_of_trees none = no_item
amount_of_trees (more t none) = one_item
amount_of_trees (more t (more u ts)) = more_items

abbrev pub amount_of_pairs : PairTrees → Amount
amount_of_pairs no_pair = no_item
amount_of_pairs (pair a b no_pair) = one_item
amount_of_pairs (pair a b (pair c d ps)) = more_items

abbrev pub amount_of_operands : Operands → Amount
amount_of_operands no_operand = no_item
amount_of_operands (operand o a no_operand) = one_item
amount_of_operands (operand o a (operand p b os)) = more_items

abbrev pub amount_of_statements : Statements → Amount
amount_of_statements finish = no_item
amount_of_statements (next t finish) = one_item
amount_of_statements (next t (next u ts)) = more_items

-- [ item ("," item)* [","] ]: a comma stands behind the last item only where there is one
abbrev pub may_end : Amount → Bool → Bool
may_end no_item comma = not comma
may_end _ comma = true

-- none, or item "," | item ("," item)+ [","]: what a tuple in brackets has
abbrev pub makes_tuple : Amount → Bool → Bool
makes_tuple one_item comma = comma
makes_tuple n comma = may_end n comma

-- item "," | item ("," item)+ [","]
abbrev pub is_listed : Amount → Bool → Bool
is_listed no_item comma = false
is_listed n comma = makes_tuple n comma

-- item ("," item)*
abbrev pub has_items : Amount → Bool
has_items no_item = false
has_items _ = true

abbrev pub derived_target : Target → Bool
derived_target (target.Name w) = true
derived_target (target.Names ws comma) = is_listed (amount ws) comma
derived_target (target.Bracketed l ws comma) = is_listed (amount ws) comma

-- ---- what is asked of an expression

-- the grammar derives it, where it derives its parts
abbrev pub derived : Tree → Bool
derived (conditional l a t b) = fits at_or a && (fits at_or t && fits at_test b)
derived (disjunction l a es) = fits at_and a && (has_items (amount_of_trees es) && fits_each at_and es)
derived (conjunction l a es) = fits at_not a && (has_items (amount_of_trees es) && fits_each at_not es)
derived (negation l a) = fits at_not a
derived (compare l a os) = fits at_sum a && (has_items (amount_of_operands os) && fits_operands os)
derived (binary l a o b) = fits (level_of_op o) a && fits (suc (level_of_op o)) b
derived (unary l o a) = fits at_unary a
derived (method l a w es comma) = fits at_postfix a && (may_end (amount_of_trees es) comma && fits_each at_test es)
derived (index l a i) = fits at_postfix a && fits at_test i
derived (slice l a i j) = fits at_postfix a && (fits_maybe at_test i && fits_maybe at_test j)
derived (call l n es comma) = may_end (amount_of_trees es) comma && fits_each at_test es
derived (paren l a) = fits at_test a
derived (tuple l es comma) = makes_tuple (amount_of_trees es) comma && fits_each at_test es
derived (list l es comma) = may_end (amount_of_trees es) comma && fits_each at_test es
derived (comprehension l a t i c) = fits at_test a && (derived_target t && (fits at_or i && fits_maybe at_or c))
derived (dict l ps comma) = may_end (amount_of_pairs ps) comma && fits_pairs ps
derived (bare_tuple l es comma) = is_listed (amount_of_trees es) comma && fits_each at_test es
derived _ = true

-- a name that is no keyword
abbrev pub is_name : List ℕ → Bool
is_name n = not (is_keyword n)

abbrev pub are_names : List (List ℕ) → Bool
are_names = list_all is_name

abbrev pub target_is_named : Target → Bool
target_is_named (target.Name w) = is_name w.text
target_is_named (target.Names ws comma) = are_names (texts_of ws)
target_is_named (target.Bracketed l ws comma) = are_names (texts_of ws)

-- no name in it is a keyword
abbrev pub has_names : Tree → Bool
has_names (name l n) = is_name n
has_names (call l n es comma) = is_name n
has_names (method l a w es comma) = is_name w.text
has_names (comprehension l a t i c) = target_is_named t
has_names _ = true

-- an integer literal is from 0 to 2^127 - 1
abbrev pub is_literal : Tree → Bool
is_literal (int l n) = int_le (pos 0) n && int_lt n (pos (2 ^ 127))
is_literal _ = true

abbrev pub is_identity : CompareOp → Bool
is_identity op.Is = true
is_identity op.IsNot = true
is_identity _ = false

abbrev pub is_nil : Tree → Bool
is_nil (nil l) = true
is_nil _ = false

abbrev pub identities_with_none : Operands → Bool
identities_with_none no_operand = true
identities_with_none (operand o a os) = (not (is_identity o) || is_nil a) && identities_with_none os

-- the operand after `is` or `is not` is `None`
abbrev pub compares_with_none : Tree → Bool
compares_with_none (compare l a os) = identities_with_none os
compares_with_none _ = true

abbrev pub sound : Tree → Bool
sound t = derived t && (has_names t && (is_literal t && compares_with_none t))

-- ---- an expression is well formed where it is sound and its parts are well formed

abbrev mutual
  pub fine : Tree → Bool
  fine (nil l) = sound (nil l)
  fine (truth l b) = sound (truth l b)
  fine (int l n) = sound (int l n)
  fine (text l t) = sound (text l t)
  fine (name l n) = sound (name l n)
  fine (paren l a) = sound (paren l a) && fine a
  fine (tuple l es comma) = sound (tuple l es comma) && fine_each es
  fine (bare_tuple l es comma) = sound (bare_tuple l es comma) && fine_each es
  fine (list l es comma) = sound (list l es comma) && fine_each es
  fine (dict l ps comma) = sound (dict l ps comma) && fine_pairs ps
  fine (comprehension l a t i c) = sound (comprehension l a t i c) && (fine a && (fine i && fine_maybe c))
  fine (call l n es comma) = sound (call l n es comma) && fine_each es
  fine (method l a w es comma) = sound (method l a w es comma) && (fine a && fine_each es)
  fine (index l a i) = sound (index l a i) && (fine a && fine i)
  fine (slice l a i j) = sound (slice l a i j) && (fine a && (fine_maybe i && fine_maybe j))
  fine (unary l o a) = sound (unary l o a) && fine a
  fine (binary l a o b) = sound (binary l a o b) && (fine a && fine b)
  fine (compare l a os) = sound (compare l a os) && (fine a && fine_operands os)
  fine (negation l a) = sound (negation l a) && fine a
  fine (conjunction l a es) = sound (conjunction l a es) && (fine a && fine_each es)
  fine (disjunction l a es) = sound (disjunction l a es) && (fine a && fine_each es)
  fine (conditional l a t b) = sound (conditional l a t b) && (fine a && (fine t && fine b))

  pub fine_each : Trees → Bool
  fine_each none = true
  fine_each (more a es) = fine a && fine_each es

  pub fine_pairs : PairTrees → Bool
  fine_pairs no_pair = true
  fine_pairs (pair a b ps) = fine a && (fine b && fine_pairs ps)

  pub fine_operands : Operands → Bool
  fine_operands no_operand = true
  fine_operands (operand o a os) = fine a && fine_operands os

  pub fine_maybe : MaybeTree → Bool
  fine_maybe absent = true
  fine_maybe (present a) = fine a

-- ---- what is asked of a statement

abbrev pub is_simple : Statement → Bool
is_simple (branch l a b t) = false
is_simple (repeat l t a b) = false
is_simple _ = true

-- a suite on its own line is one simple statement, an indented one has a statement
abbrev pub derived_body : Body → Bool
derived_body (line t) = is_simple t
derived_body (indented ts) = has_items (amount_of_statements ts)

abbrev pub derived_tail : Tail → Bool
derived_tail nothing = true
derived_tail (otherwise b) = derived_body b
derived_tail (elif a b t) = fits at_test a && (derived_body b && derived_tail t)

-- the grammar derives it, where it derives its parts
abbrev pub derived_statement : Statement → Bool
derived_statement (return l a) = fits_maybe at_tests a
derived_statement (assign l t a) = derived_target t && fits at_tests a
derived_statement (augment l n o a) = fits at_test a
derived_statement (express l a) = fits at_test a
derived_statement (branch l a b t) = fits at_test a && (derived_body b && derived_tail t)
derived_statement (repeat l t a b) = derived_target t && (fits at_test a && derived_body b)
derived_statement _ = true

-- no name in it is a keyword
abbrev pub statement_has_names : Statement → Bool
statement_has_names (assign l t a) = target_is_named t
statement_has_names (augment l n o a) = is_name n
statement_has_names (repeat l t a b) = target_is_named t
statement_has_names _ = true

-- a `break` or `continue` stands in a `for`
abbrev pub is_in_loop : Bool → Statement → Bool
is_in_loop looped (break l) = looped
is_in_loop looped (continue l) = looped
is_in_loop looped _ = true

abbrev pub sound_statement : Bool → Statement → Bool
sound_statement looped t = derived_statement t && (statement_has_names t && is_in_loop looped t)

-- ---- a statement in a `for` or outside is well formed where it is sound and its parts are well formed

abbrev mutual
  pub fine_statement : Bool → Statement → Bool
  fine_statement looped (pass l) = sound_statement looped (pass l)
  fine_statement looped (break l) = sound_statement looped (break l)
  fine_statement looped (continue l) = sound_statement looped (continue l)
  fine_statement looped (return l a) = sound_statement looped (return l a) && fine_maybe a
  fine_statement looped (assign l t a) = sound_statement looped (assign l t a) && fine a
  fine_statement looped (augment l n o a) = sound_statement looped (augment l n o a) && fine a
  fine_statement looped (express l a) = sound_statement looped (express l a) && fine a
  fine_statement looped (branch l a b t) = sound_statement looped (branch l a b t) && (fine a && (fine_body looped b && fine_tail looped t))
  fine_statement looped (repeat l t a b) = sound_statement looped (repeat l t a b) && (fine a && fine_body true b)

  pub fine_body : Bool → Body → Bool
  fine_body looped (line t) = fine_statement looped t
  fine_body looped (indented ts) = fine_statements looped ts

  pub fine_statements : Bool → Statements → Bool
  fine_statements looped finish = true
  fine_statements looped (next t ts) = fine_statement looped t && fine_statements looped ts

  pub fine_tail : Bool → Tail → Bool
  fine_tail looped nothing = true
  fine_tail looped (otherwise b) = fine_body looped b
  fine_tail looped (elif a b t) = fine a && (fine_body looped b && fine_tail looped t)

-- ---- blocks

-- no two of these names are the same
abbrev pub distinct : List (List ℕ) → Bool
distinct [] = true
distinct (n ∷ ns) = not (list_any (same_text n) ns) && distinct ns

-- parameters are names, and distinct
abbrev pub are_params : List (List ℕ) → Bool
are_params ns = are_names ns && distinct ns

abbrev pub fine_arg : ArgTree → Bool
fine_arg (lambda l params a) = are_params params && (fits at_test a && fine a)
fine_arg (plain a) = fits at_test a && fine a

abbrev pub fine_args : ArgTrees → Bool
fine_args x = may_end (amount x.items) x.comma && list_all fine_arg x.items

abbrev pub fine_head_args : Option ArgTrees → Bool
fine_head_args None = true
fine_head_args (Some x) = fine_args x

abbrev pub fine_head : HeadTree → Bool
fine_head h = is_name h.word.text && fine_head_args h.args

abbrev pub fine_link : LinkTree → Bool
fine_link x = is_name x.word.text && fine_args x.args

abbrev pub fine_chain : ChainTree → Bool
fine_chain c = fine_head c.head && list_all fine_link c.links

abbrev pub well_formed : BlockTree → Bool
well_formed (define l n params comma b) = is_name n && (may_end (amount params) comma && (are_params params && (derived_body b && fine_body false b)))
well_formed (pipeline l n c) = is_name n && fine_chain c
well_formed (alone c) = fine_chain c
