-- The reader of statements finds the tree of each spelling, with its lines.
use Rattle.std.proofs.Common.{◌≡◌, ℕ, zero, suc, ◌<◌, ◌≤◌, Bool, true, false, ◌&&◌, ◌||◌, nat_le, List, [], ◌∷◌, ◌++◌, length, Some, refl, sym, ap, ◌∙◌, arith, append_assoc, append-nil}
use Rattle.std.proofs.lemmas.Bool.{le-leb, true≢false}
use Rattle.tx_tree.specs.declared.operator.BinaryOp.{BinaryOp}
use Rattle.tx_tree.specs.declared.operator.BinaryOp.TheVariants as binary_op
use Rattle.tx_tree.specs.declared.symbol.Keyword.{Keyword}
use Rattle.tx_tree.specs.declared.symbol.Keyword.TheVariants as word
use Rattle.tx_tree.specs.declared.symbol.Mark.{Mark}
use Rattle.tx_tree.specs.declared.symbol.Mark.TheVariants as sign
use Rattle.tx_tree.specs.declared.target.Target.{Target}
use Rattle.tx_tree.specs.declared.target.Target.TheVariants as target_of
use Rattle.tx_tree.specs.Words.{binary_mark, unary_mark, augment_mark}
use Rattle.tx_tree.specs.Kind as kind
use Rattle.tx_tree.specs.Tree.{Tree, bare_tuple, Trees, none, more, trees, MaybeTree, absent, present, Statement, pass, break, continue, return, assign, augment, express, branch, repeat, Body, line, indented, Statements, finish, next, statements, Tail, nothing, otherwise, elif, tail}
use Rattle.tx_tree.specs.Form.{fits, amount_of_trees, level_of_op, is_listed, derived_target, sound, fine, fine_maybe, is_name, target_is_named, is_simple, derived_body, derived_tail, derived_statement, sound_statement, fine_statement, fine_body, fine_statements, fine_tail}
use Rattle.tx_tree.specs.Depth.{depth, depth_maybe, depth_statement, depth_body, depth_statements, depth_tail}
use Rattle.tx_parse.specs.declared.symbol.Symbol.{Symbol}
use Rattle.tx_parse.specs.declared.symbol.Symbol.TheVariants as symbol
use Rattle.tx_parse.specs.declared.cursor.Assigns.{Assigns}
use Rattle.tx_parse.specs.declared.cursor.Assigns.TheVariants as assigns
use Rattle.tx_parse.specs.declared.statement.Starter.{Starter}
use Rattle.tx_parse.specs.declared.statement.Starter.TheVariants as starter
use Rattle.tx_parse.specs.declared.place.Place.TheVariants as place
use Rattle.tx_parse.specs.Lexemes.{Lexeme, lexeme, line_at}
use Rattle.tx_parse.specs.Spells.{Span, Lone, Seq, SpellsMore, SpellsTarget, Spells, SpellsItems, SpellsMaybe, SpellsStatement, SpellsBody, SpellsStatements, SpellsTail}
use Rattle.tx_parse.specs.Calls.Front.{symbol_at, same_symbol, at, assigns_at, mark_assigns}
use Rattle.tx_parse.specs.Calls.Reader.{Reader, give, and_read, when, behind, target, read}
use Rattle.tx_parse.specs.Calls.Statements.{listed_behind, value_by, value, starter_of, ended, assigned, augmented, unmarked, returned_by, returned, simple_by, simple, simple_at, statement_or_end, more_statements, indented_lines, suite_by, armed, arm, other_suite, arms_by, arms, branched, branching, repeated, repeating, suite, statement_by, statement}
use Rattle.tx_parse.proofs.Options.{and_left, and_right}
use Rattle.tx_tree.specs.declared.operator.UnaryOp.{UnaryOp}
use Rattle.tx_tree.specs.declared.operator.UnaryOp.TheVariants as unary_op
use Rattle.tx_tree.specs.declared.operator.CompareOp.{CompareOp}
use Rattle.tx_tree.specs.declared.operator.CompareOp.TheVariants as op
use Rattle.tx_tree.specs.declared.target.Word.{Word}
use Rattle.tx_tree.specs.Tree.{nil, truth, int, text, name, paren, tuple, list, dict, comprehension, call, method, index, slice, unary, binary, compare, negation, conjunction, disjunction, conditional, PairTrees, no_pair, pair, Operands, no_operand, operand}
use Rattle.tx_parse.specs.Spells.{SpellsComma, SpellsWord, SpellsList, SpellsOp, SpellsMoreItems, SpellsPairs, SpellsMorePairs, SpellsBehind, SpellsOperands, SpellsCondition}
use Rattle.tx_parse.proofs.Fronts.{at_only}
use Rattle.tx_parse.proofs.Lists.{behind_complete}
use Rattle.tx_parse.proofs.Targets.{name_complete, ListEnd, target_complete, target_shorter}
use Rattle.tx_parse.proofs.Expressions.Places.{continues}
use Rattle.tx_parse.proofs.Expressions.Trees.{GoodTree, good_trees, list_of, trees-list_of, list_of_more, asked, opens, spelled_begins, no_longer}
use Rattle.tx_parse.proofs.Expressions.Complete.{read_complete, false_by, opens_apart, stops_lone, TreeEnd, test_items}

-- ---- no mark that assigns, and no end of a line, stands in an expression or a target

abbrev Passes : Span → Type 0
Passes A = (ts r : List Lexeme) → A ts r → assigns_at ts ≡ assigns_at r

comma_passes : (b : Bool) → Passes (SpellsComma b)
comma_passes true ts r s = ap assigns_at s.same
comma_passes false ts r s = ap assigns_at s

words_more_pass : (ws : List Word) (c : Bool) → Passes (SpellsMore SpellsWord ws c)
words_more_pass [] c ts r s = comma_passes c ts r s
words_more_pass (w ∷ ws) c ts r s = let b = s.behind in ap assigns_at s.before.same ∙ ap assigns_at b.before ∙ words_more_pass ws c b.between r b.behind

words_pass : (ws : List Word) (c : Bool) → Passes (SpellsList SpellsWord ws c)
words_pass [] c ts r s = comma_passes c ts r s
words_pass (w ∷ ws) c ts r s = ap assigns_at s.before ∙ words_more_pass ws c s.between r s.behind

target_passes : (t : Target) → Passes (SpellsTarget t)
target_passes (target_of.Name w) ts r s = ap assigns_at s
target_passes (target_of.Names ws c) ts r s = words_pass ws c ts r s
target_passes (target_of.Bracketed l ws c) ts r s = let b = s.behind in ap assigns_at s.before ∙ words_pass ws c s.between b.between b.before ∙ ap assigns_at b.behind.same

op_passes : (o : CompareOp) → Passes (SpellsOp o)
op_passes op.Equal ts r s = ap assigns_at s.same
op_passes op.NotEqual ts r s = ap assigns_at s.same
op_passes op.Less ts r s = ap assigns_at s.same
op_passes op.LessEqual ts r s = ap assigns_at s.same
op_passes op.Greater ts r s = ap assigns_at s.same
op_passes op.GreaterEqual ts r s = ap assigns_at s.same
op_passes op.In ts r s = ap assigns_at s.same
op_passes op.NotIn ts r s = ap assigns_at s.before.same ∙ ap assigns_at s.behind.same
op_passes op.Is ts r s = ap assigns_at s.same
op_passes op.IsNot ts r s = ap assigns_at s.before.same ∙ ap assigns_at s.behind.same

binary_passes : (o : BinaryOp) (z : Assigns) → mark_assigns (binary_mark o) z ≡ z
binary_passes binary_op.Add z = refl
binary_passes binary_op.Sub z = refl
binary_passes binary_op.Mul z = refl
binary_passes binary_op.FloorDiv z = refl
binary_passes binary_op.Mod z = refl

sign_passes : (o : UnaryOp) (z : Assigns) → mark_assigns (unary_mark o) z ≡ z
sign_passes unary_op.Minus z = refl
sign_passes unary_op.Plus z = refl

mutual
  tree_passes : (t : Tree) → Passes (Spells t)
  tree_passes (nil l) ts r s = ap assigns_at s
  tree_passes (truth l b) ts r s = ap assigns_at s
  tree_passes (int l v) ts r s = ap assigns_at s
  tree_passes (text l v) ts r s = ap assigns_at s
  tree_passes (name l v) ts r s = ap assigns_at s
  tree_passes (paren l a) ts r s = let x = s.behind in ap assigns_at s.before ∙ tree_passes a s.between x.between x.before ∙ ap assigns_at x.behind.same
  tree_passes (tuple l es c) ts r s = let x = s.behind in ap assigns_at s.before ∙ items_passes es c s.between x.between x.before ∙ ap assigns_at x.behind.same
  tree_passes (bare_tuple l es c) ts r s = items_passes es c ts r s.span
  tree_passes (list l es c) ts r s = let x = s.behind in ap assigns_at s.before ∙ items_passes es c s.between x.between x.before ∙ ap assigns_at x.behind.same
  tree_passes (dict l ps c) ts r s = let x = s.behind in ap assigns_at s.before ∙ pairs_passes ps c s.between x.between x.before ∙ ap assigns_at x.behind.same
  tree_passes (comprehension l a t i c) ts r s =
      let x = s.behind in
      let y = x.behind in
      let z = y.behind in
      let u = z.behind in
      let v = u.behind in
      let w = v.behind in
      ap assigns_at s.before ∙ tree_passes a s.between x.between x.before ∙ ap assigns_at y.before.same ∙ target_passes t y.between z.between z.before ∙ ap assigns_at u.before.same ∙ tree_passes i u.between v.between v.before ∙ condition_passes c v.between w.between w.before ∙ ap assigns_at w.behind.same
  tree_passes (call l m es c) ts r s = let x = s.behind in let y = x.behind in ap assigns_at s.before ∙ ap assigns_at x.before.same ∙ items_passes es c x.between y.between y.before ∙ ap assigns_at y.behind.same
  tree_passes (method l a w es c) ts r s =
      let b = s.span in
      let x = b.behind in
      let y = x.behind in
      let z = y.behind in
      let u = z.behind in
      tree_passes a ts b.between b.before ∙ ap assigns_at x.before.same ∙ ap assigns_at y.before ∙ ap assigns_at z.before.same ∙ items_passes es c z.between u.between u.before ∙ ap assigns_at u.behind.same
  tree_passes (index l a i) ts r s =
      let b = s.span in
      let x = b.behind in
      let y = x.behind in
      tree_passes a ts b.between b.before ∙ ap assigns_at x.before.same ∙ tree_passes i x.between y.between y.before ∙ ap assigns_at y.behind.same
  tree_passes (slice l a i j) ts r s =
      let b = s.span in
      let x = b.behind in
      let y = x.behind in
      let z = y.behind in
      let u = z.behind in
      tree_passes a ts b.between b.before ∙ ap assigns_at x.before.same ∙ maybe_passes i x.between y.between y.before ∙ ap assigns_at z.before.same ∙ maybe_passes j z.between u.between u.before ∙ ap assigns_at u.behind.same
  tree_passes (unary l o a) ts r s = ap assigns_at s.before ∙ sign_passes o (assigns_at s.between) ∙ tree_passes a s.between r s.behind
  tree_passes (binary l a o b) ts r s = let x = s.span in let y = x.behind in tree_passes a ts x.between x.before ∙ ap assigns_at y.before.same ∙ binary_passes o (assigns_at y.between) ∙ tree_passes b y.between r y.behind
  tree_passes (compare l a os) ts r s = let x = s.span in tree_passes a ts x.between x.before ∙ operands_passes os x.between r x.behind
  tree_passes (negation l a) ts r s = ap assigns_at s.before ∙ tree_passes a s.between r s.behind
  tree_passes (conjunction l a es) ts r s = let x = s.span in tree_passes a ts x.between x.before ∙ behind_passes word.And es x.between r x.behind
  tree_passes (disjunction l a es) ts r s = let x = s.span in tree_passes a ts x.between x.before ∙ behind_passes word.Or es x.between r x.behind
  tree_passes (conditional l a t b) ts r s =
      let x = s.span in
      let y = x.behind in
      let z = y.behind in
      let u = z.behind in
      tree_passes a ts x.between x.before ∙ ap assigns_at y.before.same ∙ tree_passes t y.between z.between z.before ∙ ap assigns_at u.before.same ∙ tree_passes b u.between r u.behind

  items_passes : (es : Trees) (c : Bool) → Passes (SpellsItems es c)
  items_passes none c ts r s = comma_passes c ts r s
  items_passes (more a es) c ts r s = tree_passes a ts s.between s.before ∙ more_items_passes es c s.between r s.behind

  more_items_passes : (es : Trees) (c : Bool) → Passes (SpellsMoreItems es c)
  more_items_passes none c ts r s = comma_passes c ts r s
  more_items_passes (more a es) c ts r s = let x = s.behind in ap assigns_at s.before.same ∙ tree_passes a s.between x.between x.before ∙ more_items_passes es c x.between r x.behind

  pairs_passes : (ps : PairTrees) (c : Bool) → Passes (SpellsPairs ps c)
  pairs_passes no_pair c ts r s = comma_passes c ts r s
  pairs_passes (pair a b ps) c ts r s =
      let p = s.before in
      let q = p.behind in
      tree_passes a ts p.between p.before ∙ ap assigns_at q.before.same ∙ tree_passes b q.between s.between q.behind ∙ more_pairs_passes ps c s.between r s.behind

  more_pairs_passes : (ps : PairTrees) (c : Bool) → Passes (SpellsMorePairs ps c)
  more_pairs_passes no_pair c ts r s = comma_passes c ts r s
  more_pairs_passes (pair a b ps) c ts r s =
      let x = s.behind in
      let p = x.before in
      let q = p.behind in
      ap assigns_at s.before.same ∙ tree_passes a s.between p.between p.before ∙ ap assigns_at q.before.same ∙ tree_passes b q.between x.between q.behind ∙ more_pairs_passes ps c x.between r x.behind

  behind_passes : (w : Keyword) (es : Trees) → Passes (SpellsBehind w es)
  behind_passes w none ts r s = ap assigns_at s
  behind_passes w (more a es) ts r s = let x = s.behind in ap assigns_at s.before.same ∙ tree_passes a s.between x.between x.before ∙ behind_passes w es x.between r x.behind

  operands_passes : (os : Operands) → Passes (SpellsOperands os)
  operands_passes no_operand ts r s = ap assigns_at s
  operands_passes (operand o a os) ts r s = let x = s.behind in op_passes o ts s.between s.before ∙ tree_passes a s.between x.between x.before ∙ operands_passes os x.between r x.behind

  maybe_passes : (m : MaybeTree) → Passes (SpellsMaybe m)
  maybe_passes absent ts r s = ap assigns_at s
  maybe_passes (present a) ts r s = tree_passes a ts r s

  condition_passes : (m : MaybeTree) → Passes (SpellsCondition m)
  condition_passes absent ts r s = ap assigns_at s
  condition_passes (present a) ts r s = ap assigns_at s.before.same ∙ tree_passes a s.between r s.behind

-- ---- how long statements are

mutual
  statement_shorter : (s : Statement) (ts r : List Lexeme) → SpellsStatement s ts r → length r < length ts
  statement_shorter (pass l) ts r s = omega (arith, ap length s.before, ap length s.behind.same)
  statement_shorter (break l) ts r s = omega (arith, ap length s.before, ap length s.behind.same)
  statement_shorter (continue l) ts r s = omega (arith, ap length s.before, ap length s.behind.same)
  statement_shorter (return l absent) ts r s = let x = s.behind in omega (arith, ap length s.before, ap length x.before, ap length x.behind.same)
  statement_shorter (return l (present a)) ts r s = let x = s.behind in omega (arith, ap length s.before, no_longer a s.between x.between x.before, ap length x.behind.same)
  statement_shorter (assign l t a) ts r s =
      let x = s.span in
      let y = x.behind in
      let z = y.behind in
      omega (arith, target_shorter t ts x.between x.before, ap length y.before.same, no_longer a y.between z.between z.before, ap length z.behind.same)
  statement_shorter (augment l m o a) ts r s = let x = s.behind in let y = x.behind in omega (arith, ap length s.before, ap length x.before.same, no_longer a x.between y.between y.before, ap length y.behind.same)
  statement_shorter (express l a) ts r s = let x = s.span in omega (arith, no_longer a ts x.between x.before, ap length x.behind.same)
  statement_shorter (branch l a b t) ts r s =
      let x = s.behind in
      let y = x.behind in
      let z = y.behind in
      omega (arith, ap length s.before, no_longer a s.between x.between x.before, ap length y.before.same, body_longer b y.between z.between z.before, tail_longer t z.between r z.behind)
  statement_shorter (repeat l t a b) ts r s =
      let x = s.behind in
      let y = x.behind in
      let z = y.behind in
      let w = z.behind in
      omega (arith, ap length s.before, target_shorter t s.between x.between x.before, ap length y.before.same, no_longer a y.between z.between z.before, ap length w.before.same, body_longer b w.between r w.behind)

  body_longer : (b : Body) (ts r : List Lexeme) → SpellsBody b ts r → length r ≤ length ts
  body_longer (line t) ts r s = omega (arith, statement_shorter t ts r s)
  body_longer (indented ss) ts r s = let x = s.behind in let y = x.behind in omega (arith, ap length s.before.same, ap length x.before.same, statements_longer ss x.between y.between y.before, ap length y.behind.same)

  statements_longer : (ss : Statements) (ts r : List Lexeme) → SpellsStatements ss ts r → length r ≤ length ts
  statements_longer finish ts r s = omega (arith, ap length s)
  statements_longer (next t ss) ts r s = omega (arith, statement_shorter t ts s.between s.before, statements_longer ss s.between r s.behind)

  tail_longer : (t : Tail) (ts r : List Lexeme) → SpellsTail t ts r → length r ≤ length ts
  tail_longer nothing ts r s = omega (arith, ap length s)
  tail_longer (otherwise b) ts r s = let x = s.behind in omega (arith, ap length s.before.same, ap length x.before.same, body_longer b x.between r x.behind)
  tail_longer (elif a b t) ts r s =
      let x = s.behind in
      let y = x.behind in
      let z = y.behind in
      omega (arith, ap length s.before.same, no_longer a s.between x.between x.before, ap length y.before.same, body_longer b y.between z.between z.before, tail_longer t z.between r z.behind)

-- ---- values

newline_end : TreeEnd symbol.Newline
newline_end = record { stops = refl; opens_none = refl; apart = λ ts y. ap (λ s. same_symbol (symbol.Mark sign.Comma) s) (sym (at_only symbol.Newline ts y)) }

bare_items : (l : ℕ) (a : Tree) (es : Trees) (c : Bool) → bare_tuple l (trees (a ∷ list_of es)) c ≡ bare_tuple l (more a es) c
bare_items l a es c = ap (λ z. bare_tuple l (more a z) c) (trees-list_of es)

-- items behind the first, where the grammar has a tuple without brackets
behind_comma : (es : Trees) (a : Tree) (c : Bool) (ts r : List Lexeme) → SpellsMoreItems es c ts r → is_listed (amount_of_trees (more a es)) c ≡ true → at (symbol.Mark sign.Comma) ts ≡ true
behind_comma none a false ts r s h = cc
behind_comma none a true ts r s h = ap (at (symbol.Mark sign.Comma)) s.same
behind_comma (more b es) a c ts r s h = ap (at (symbol.Mark sign.Comma)) s.before.same

comma_stops : (ts : List Lexeme) → at (symbol.Mark sign.Comma) ts ≡ true → continues (symbol_at ts) < 1
comma_stops ts y = omega (arith, ap continues (at_only (symbol.Mark sign.Comma) ts y))

newline_stops : (ts : List Lexeme) → at symbol.Newline ts ≡ true → continues (symbol_at ts) < 1
newline_stops ts y = omega (arith, ap continues (at_only symbol.Newline ts y))

-- a test that is no tuple
test_value : (n : ℕ) (t : Tree) (ts r : List Lexeme) → Spells t ts r → fine t ≡ true → fits 1 t ≡ true → depth t ≤ n → at symbol.Newline r ≡ true → value n ts ≡ Some (t, r)
test_value zero t ts r s w f d h = let x = read_complete zero place.Test t ts r s w f d (newline_stops r h) in cc
test_value (suc n) t ts r s w f d h =
    ap (λ o. and_read o (λ a r. value_by n (line_at ts) a (at (symbol.Mark sign.Comma) r) r)) (read_complete (suc n) place.Test t ts r s w f d (newline_stops r h))
    ∙ ap (λ b. value_by n (line_at ts) t b r) (ap (λ s. same_symbol (symbol.Mark sign.Comma) s) (sym (at_only symbol.Newline r h)))

bare_value : (n l : ℕ) (a : Tree) (es : Trees) (c : Bool) (ts r : List Lexeme) → Spells (bare_tuple l (more a es) c) ts r → fine (bare_tuple l (more a es) c) ≡ true → depth (bare_tuple l (more a es) c) ≤ n → at symbol.Newline r ≡ true → value n ts ≡ Some (bare_tuple l (more a es) c, r)
bare_value zero l a es c ts r s w d h = absurd (omega arith)
bare_value (suc n) l a es c ts r s w d h =
    let x = s.span in
    let dv = asked (bare_tuple l (more a es) c) _ w in
    let fs = and_right (is_listed (amount_of_trees (more a es)) c) _ dv in
    let ws = and_right (sound (bare_tuple l (more a es) c)) _ w in
    let m = behind_comma es a c x.between r x.behind (and_left _ _ dv) in
    ap (λ o. and_read o (λ a r. value_by n (line_at ts) a (at (symbol.Mark sign.Comma) r) r)) (read_complete (suc n) place.Test a ts x.between x.before (and_left _ _ ws) (and_left _ _ fs) (omega arith) (comma_stops x.between m))
    ∙ ap (λ b. value_by n (line_at ts) a b x.between) m
    ∙ ap (λ b. when b (listed_behind n (line_at ts) a x.between)) (le-leb (depth a) n (omega arith))
    ∙ ap (λ o. and_read o (λ x. give (bare_tuple (line_at ts) (trees x.0) x.1))) (behind_complete Spells (GoodTree 1 n) symbol.Newline (read n place.Test) (test_items n (read n) (read_complete n) symbol.Newline newline_end) a (list_of es) c x.between r (list_of_more es c x.between r x.behind) (good_trees 1 n es (and_right (fine a) _ ws) (and_right (fits 1 a) _ fs) (omega arith)) h)
    ∙ ap (λ z. Some (z, r)) (ap (λ z. bare_tuple z (trees (a ∷ list_of es)) c) s.start ∙ bare_items l a es c)

pub value_complete : (n : ℕ) (t : Tree) (ts r : List Lexeme) → Spells t ts r → fine t ≡ true → depth t ≤ n → at symbol.Newline r ≡ true → value n ts ≡ Some (t, r)
value_complete n (bare_tuple l none c) ts r s w d h = let dv = asked (bare_tuple l none c) true w in cc
value_complete n (bare_tuple l (more a es) c) ts r s w d h = bare_value n l a es c ts r s w d h
value_complete n (binary l a o b) ts r s w d h = test_value n (binary l a o b) ts r s w (some_op o) d h
  where
    some_op : (o : BinaryOp) → nat_le 1 (level_of_op o) ≡ true
    some_op binary_op.Add = refl
    some_op binary_op.Sub = refl
    some_op binary_op.Mul = refl
    some_op binary_op.FloorDiv = refl
    some_op binary_op.Mod = refl
value_complete n t ts r s w d h = test_value n t ts r s w refl d h

-- ---- what a statement begins with

-- an expression begins no statement that has a word
unmarked_symbol : (s : Symbol) → 0 < opens s → starter_of s ≡ starter.Unmarked
unmarked_symbol (symbol.Keyword word.Pass) h = absurd (omega arith)
unmarked_symbol (symbol.Keyword word.Break) h = absurd (omega arith)
unmarked_symbol (symbol.Keyword word.Continue) h = absurd (omega arith)
unmarked_symbol (symbol.Keyword word.Return) h = absurd (omega arith)
unmarked_symbol (symbol.Keyword word.If) h = absurd (omega arith)
unmarked_symbol (symbol.Keyword word.For) h = absurd (omega arith)
unmarked_symbol (symbol.Keyword _) h = refl
unmarked_symbol _ h = refl

target_opens : (t : Target) (ts r : List Lexeme) → SpellsTarget t ts r → derived_target t ≡ true → 0 < opens (symbol_at ts)
target_opens (target_of.Name w) ts r s d = omega (arith, ap (λ z. opens (symbol_at z)) s)
target_opens (target_of.Names [] c) ts r s d = cc
target_opens (target_of.Names (w ∷ ws) c) ts r s d = omega (arith, ap (λ z. opens (symbol_at z)) s.before)
target_opens (target_of.Bracketed l ws c) ts r s d = omega (arith, ap (λ z. opens (symbol_at z)) s.before)

-- ---- simple statements

ended_complete : (s : Statement) (ts r : List Lexeme) → Lone kind.newline ts r → ended s ts ≡ Some (s, r)
ended_complete s ts r l = ap (ended s) l.same

at_line_end : (ts r : List Lexeme) → Lone kind.newline ts r → at symbol.Newline ts ≡ true
at_line_end ts r l = ap (at symbol.Newline) l.same

assign_end : ListEnd (symbol.Mark sign.Assign)
assign_end = record { no_name = λ m l r. refl; apart = λ ts y. ap (λ s. same_symbol (symbol.Mark sign.Comma) s) (sym (at_only (symbol.Mark sign.Assign) ts y)) }

augment_with : (o : BinaryOp) (z : Assigns) → mark_assigns (augment_mark o) z ≡ assigns.With o
augment_with binary_op.Add z = refl
augment_with binary_op.Sub z = refl
augment_with binary_op.Mul z = refl
augment_with binary_op.FloorDiv z = refl
augment_with binary_op.Mod z = refl

augment_there : (o : BinaryOp) (l : ℕ) (r : List Lexeme) → at (symbol.Mark (augment_mark o)) (lexeme (kind.mark (augment_mark o)) l ∷ r) ≡ true
augment_there binary_op.Add l r = refl
augment_there binary_op.Sub l r = refl
augment_there binary_op.Mul l r = refl
augment_there binary_op.FloorDiv l r = refl
augment_there binary_op.Mod l r = refl

module _ (n : ℕ) where
  -- a statement without a word, by what its line assigns by
  by_unmarked : (looped : Bool) (ts : List Lexeme) (a : Assigns) → 0 < opens (symbol_at ts) → assigns_at ts ≡ a → simple n looped ts ≡ unmarked n a ts
  by_unmarked looped ts a h e = ap (λ z. simple_by n looped z ts) (unmarked_symbol (symbol_at ts) h) ∙ ap (λ z. unmarked n z ts) e

  assign_complete : (looped : Bool) (l : ℕ) (t : Target) (a : Tree) (ts r : List Lexeme) → SpellsStatement (assign l t a) ts r → derived_target t ≡ true → target_is_named t ≡ true → fine a ≡ true → depth a ≤ n → simple n looped ts ≡ Some (assign l t a, r)
  assign_complete looped l t a ts r s dt nt w d =
      let x = s.span in
      let y = x.behind in
      let z = y.behind in
      by_unmarked looped ts assigns.Plain (target_opens t ts x.between x.before dt) (target_passes t ts x.between x.before ∙ ap assigns_at y.before.same)
      ∙ ap (λ o. and_read o (λ t. behind (symbol.Mark sign.Assign) (assigned n (line_at ts) t))) (target_complete (symbol.Mark sign.Assign) assign_end t ts x.between x.before dt nt (ap (at (symbol.Mark sign.Assign)) y.before.same))
      ∙ ap (behind (symbol.Mark sign.Assign) (assigned n (line_at ts) t)) y.before.same
      ∙ ap (λ o. and_read o (λ a. ended (assign (line_at ts) t a))) (value_complete n a y.between z.between z.before w d (at_line_end z.between r z.behind))
      ∙ ended_complete (assign (line_at ts) t a) z.between r z.behind
      ∙ ap (λ q. Some (assign q t a, r)) s.start

  augment_complete : (looped : Bool) (l : ℕ) (m : List ℕ) (o : BinaryOp) (a : Tree) (ts r : List Lexeme) → SpellsStatement (augment l m o a) ts r → is_name m ≡ true → fine a ≡ true → fits 1 a ≡ true → depth a ≤ n → simple n looped ts ≡ Some (augment l m o a, r)
  augment_complete looped l m o a ts r s nm w f d =
      let x = s.behind in
      let y = x.behind in
      by_unmarked looped ts (assigns.With o) (omega (arith, ap (λ z. opens (symbol_at z)) s.before)) (ap assigns_at s.before ∙ ap assigns_at x.before.same ∙ augment_with o (assigns_at x.between))
      ∙ ap (λ q. and_read q (λ m. behind (symbol.Mark (augment_mark o)) (augmented n (line_at ts) m o))) (name_complete m ts s.between (record { at = l; same = s.before }) nm)
      ∙ ap (behind (symbol.Mark (augment_mark o)) (augmented n (line_at ts) m o)) x.before.same
      ∙ ap (λ b. when b (augmented n (line_at ts) m o x.between)) (augment_there o x.before.at x.between)
      ∙ ap (λ q. and_read q (λ a. ended (augment (line_at ts) m o a))) (read_complete n place.Test a x.between y.between y.before w f d (newline_stops y.between (at_line_end y.between r y.behind)))
      ∙ ended_complete (augment (line_at ts) m o a) y.between r y.behind
      ∙ ap (λ q. Some (augment q m o a, r)) (ap line_at s.before)

  express_complete : (looped : Bool) (l : ℕ) (a : Tree) (ts r : List Lexeme) → SpellsStatement (express l a) ts r → fine a ≡ true → fits 1 a ≡ true → depth a ≤ n → simple n looped ts ≡ Some (express l a, r)
  express_complete looped l a ts r s w f d =
      let x = s.span in
      let b = spelled_begins a ts x.between x.before w in
      by_unmarked looped ts assigns.Nothing (omega (arith, b.1)) (tree_passes a ts x.between x.before ∙ ap assigns_at x.behind.same)
      ∙ ap (λ o. and_read o (λ a. ended (express (line_at ts) a))) (read_complete n place.Test a ts x.between x.before w f d (newline_stops x.between (at_line_end x.between r x.behind)))
      ∙ ended_complete (express (line_at ts) a) x.between r x.behind
      ∙ ap (λ q. Some (express q a, r)) s.start

  return_complete : (looped : Bool) (l : ℕ) (a : MaybeTree) (ts r : List Lexeme) → SpellsStatement (return l a) ts r → fine_maybe a ≡ true → depth_maybe a ≤ n → simple n looped ts ≡ Some (return l a, r)
  return_complete looped l absent ts r s w d =
      let x = s.behind in
      ap (simple n looped) s.before ∙ ap (returned n l) (x.before ∙ x.behind.same)
  return_complete looped l (present a) ts r s w d =
      let x = s.behind in
      let b = spelled_begins a s.between x.between x.before w in
      ap (simple n looped) s.before
      ∙ ap (λ z. returned_by n l z s.between) (opens_apart symbol.Newline s.between 1 (omega arith) (omega (arith, b.1)))
      ∙ ap (λ o. and_read o (λ a. ended (return l (present a)))) (value_complete n a s.between x.between x.before w d (at_line_end x.between r x.behind))
      ∙ ended_complete (return l (present a)) x.between r x.behind

  pub simple_complete : (looped : Bool) (s : Statement) (ts r : List Lexeme) → SpellsStatement s ts r → is_simple s ≡ true → fine_statement looped s ≡ true → depth_statement s ≤ suc n → simple n looped ts ≡ Some (s, r)
  simple_complete looped (pass l) ts r s p w d = ap (simple n looped) s.before ∙ ended_complete (pass l) s.between r s.behind
  simple_complete looped (break l) ts r s p w d =
      ap (simple n looped) s.before ∙ ap (λ b. when b (ended (break l) s.between)) w ∙ ended_complete (break l) s.between r s.behind
  simple_complete looped (continue l) ts r s p w d =
      ap (simple n looped) s.before ∙ ap (λ b. when b (ended (continue l) s.between)) w ∙ ended_complete (continue l) s.between r s.behind
  simple_complete looped (return l a) ts r s p w d = return_complete looped l a ts r s (and_right (sound_statement looped (return l a)) _ w) (omega arith)
  simple_complete looped (assign l t a) ts r s p w d =
      let so = and_left (sound_statement looped (assign l t a)) _ w in
      let dv = and_left (derived_statement (assign l t a)) _ so in
      let nm = and_left _ _ (and_right (derived_statement (assign l t a)) _ so) in
      assign_complete looped l t a ts r s (and_left _ _ dv) nm (and_right (sound_statement looped (assign l t a)) _ w) (omega arith)
  simple_complete looped (augment l m o a) ts r s p w d =
      let so = and_left (sound_statement looped (augment l m o a)) _ w in
      let nm = and_left _ _ (and_right (derived_statement (augment l m o a)) _ so) in
      augment_complete looped l m o a ts r s nm (and_right (sound_statement looped (augment l m o a)) _ w) (and_left (derived_statement (augment l m o a)) _ so) (omega arith)
  simple_complete looped (express l a) ts r s p w d =
      let so = and_left (sound_statement looped (express l a)) _ w in
      express_complete looped l a ts r s (and_right (sound_statement looped (express l a)) _ w) (and_left (derived_statement (express l a)) _ so) (omega arith)
  simple_complete looped (branch l a b t) ts r s p w d = cc
  simple_complete looped (repeat l t a b) ts r s p w d = cc

depth_statement_some : (s : Statement) → 0 < depth_statement s
depth_statement_some (pass l) = omega arith
depth_statement_some (break l) = omega arith
depth_statement_some (continue l) = omega arith
depth_statement_some (return l a) = omega arith
depth_statement_some (assign l t a) = omega arith
depth_statement_some (augment l m o a) = omega arith
depth_statement_some (express l a) = omega arith
depth_statement_some (branch l a b t) = omega arith
depth_statement_some (repeat l t a b) = omega arith

simple_at_complete : (n : ℕ) (looped : Bool) (s : Statement) (ts r : List Lexeme) → SpellsStatement s ts r → is_simple s ≡ true → fine_statement looped s ≡ true → depth_statement s ≤ n → simple_at n looped ts ≡ Some (s, r)
simple_at_complete zero looped s ts r h p w d = absurd (omega (arith, depth_statement_some s))
simple_at_complete (suc n) looped s ts r h p w d = simple_complete n looped s ts r h p w d

-- ---- suites

-- an arm goes on with an `if`
abbrev pub goes_on : List Lexeme → Bool
goes_on ts = at (symbol.Keyword word.Elif) ts || at (symbol.Keyword word.Else) ts

abbrev pub CompleteStatements : Bool → ℕ → Reader Statement → Type 0
CompleteStatements looped n f = (s : Statement) (ts r : List Lexeme) → SpellsStatement s ts r → fine_statement looped s ≡ true → depth_statement s ≤ n → goes_on r ≡ false → f ts ≡ Some (s, r)

abbrev pub CompleteBodies : Bool → ℕ → Reader Body → Type 0
CompleteBodies looped n f = (b : Body) (ts r : List Lexeme) → SpellsBody b ts r → derived_body b ≡ true → fine_body looped b ≡ true → depth_body b ≤ n → f ts ≡ Some (b, r)

-- what a statement begins with
abbrev starts : Symbol → Bool
starts symbol.Newline = false
starts symbol.Indent = false
starts symbol.Dedent = false
starts symbol.End = false
starts symbol.Unknown = false
starts (symbol.Keyword word.Elif) = false
starts (symbol.Keyword word.Else) = false
starts _ = true

opens_starts : (s : Symbol) → 0 < opens s → starts s ≡ true
opens_starts symbol.Newline h = absurd (omega arith)
opens_starts symbol.Indent h = absurd (omega arith)
opens_starts symbol.Dedent h = absurd (omega arith)
opens_starts symbol.End h = absurd (omega arith)
opens_starts symbol.Unknown h = absurd (omega arith)
opens_starts (symbol.Keyword word.Elif) h = absurd (omega arith)
opens_starts (symbol.Keyword word.Else) h = absurd (omega arith)
opens_starts (symbol.Keyword _) h = refl
opens_starts _ h = refl

statement_starts : (looped : Bool) (s : Statement) (ts r : List Lexeme) → SpellsStatement s ts r → fine_statement looped s ≡ true → starts (symbol_at ts) ≡ true
statement_starts looped (pass l) ts r s w = ap (λ z. starts (symbol_at z)) s.before
statement_starts looped (break l) ts r s w = ap (λ z. starts (symbol_at z)) s.before
statement_starts looped (continue l) ts r s w = ap (λ z. starts (symbol_at z)) s.before
statement_starts looped (return l a) ts r s w = ap (λ z. starts (symbol_at z)) s.before
statement_starts looped (assign l t a) ts r s w =
    let x = s.span in
    let so = and_left (sound_statement looped (assign l t a)) _ w in
    opens_starts (symbol_at ts) (target_opens t ts x.between x.before (and_left _ _ (and_left (derived_statement (assign l t a)) _ so)))
statement_starts looped (augment l m o a) ts r s w = ap (λ z. starts (symbol_at z)) s.before
statement_starts looped (express l a) ts r s w =
    let x = s.span in
    let b = spelled_begins a ts x.between x.before (and_right (sound_statement looped (express l a)) _ w) in
    opens_starts (symbol_at ts) (omega (arith, b.1))
statement_starts looped (branch l a b t) ts r s w = ap (λ z. starts (symbol_at z)) s.before
statement_starts looped (repeat l t a b) ts r s w = ap (λ z. starts (symbol_at z)) s.before

-- a symbol that begins no statement is not there
starts_apart : (s : Symbol) (ts : List Lexeme) → starts s ≡ false → starts (symbol_at ts) ≡ true → at s ts ≡ false
starts_apart s ts f t = false_by (at s ts) (λ y. true≢false (sym t ∙ ap starts (sym (at_only s ts y)) ∙ f))

starts_ends : (ts : List Lexeme) → starts (symbol_at ts) ≡ true → goes_on ts ≡ false
starts_ends ts t = ap (λ b. b || at (symbol.Keyword word.Else) ts) (starts_apart (symbol.Keyword word.Elif) ts refl t) ∙ starts_apart (symbol.Keyword word.Else) ts refl t

module _ (looped : Bool) (n : ℕ) (inner : Reader Statement) (complete : CompleteStatements looped n inner) where
  abbrev statement_list : Statements → List Statement
  statement_list finish = []
  statement_list (next s ss) = s ∷ statement_list ss

  statements_list : (ss : Statements) → statements (statement_list ss) ≡ ss
  statements_list finish = refl
  statements_list (next s ss) = ap (next s) (statements_list ss)

  next_ends : (ss : Statements) (ts r : List Lexeme) → Seq (SpellsStatements ss) (Lone kind.dedent) ts r → fine_statements looped ss ≡ true → goes_on ts ≡ false
  next_ends finish ts r s w = ap goes_on (s.before ∙ s.behind.same)
  next_ends (next t ss) ts r s w = let x = s.before in starts_ends ts (statement_starts looped t ts x.between x.before (and_left _ _ w))

  lines_complete : (ss : Statements) (m : ℕ) (done : List Statement) (ts r : List Lexeme) → Seq (SpellsStatements ss) (Lone kind.dedent) ts r → fine_statements looped ss ≡ true → depth_statements ss ≤ n → length ts ≤ m → more_statements inner m done ts ≡ Some (done ++ statement_list ss, r)
  lines_complete finish zero done ts r s w d l = absurd (omega (arith, ap length s.before, ap length s.behind.same))
  lines_complete finish (suc m) done ts r s w d l =
      ap (more_statements inner (suc m) done) (s.before ∙ s.behind.same) ∙ ap (λ z. Some (z, r)) (sym (append-nil done))
  lines_complete (next t ss) zero done ts r s w d l = let x = s.before in absurd (omega (arith, statement_shorter t ts x.between x.before))
  lines_complete (next t ss) (suc m) done ts r s w d l =
      let x = s.before in
      let q : Seq (SpellsStatements ss) (Lone kind.dedent) x.between r = record { between = s.between; before = x.behind; behind = s.behind } in
      ap (λ b. statement_or_end inner (more_statements inner m) done b ts) (starts_apart symbol.Dedent ts refl (statement_starts looped t ts x.between x.before (and_left _ _ w)))
      ∙ ap (λ o. and_read o (λ s. more_statements inner m (done ++ s ∷ []))) (complete t ts x.between x.before (and_left _ _ w) (omega arith) (next_ends ss x.between r q (and_right (fine_statement looped t) _ w)))
      ∙ lines_complete ss m (done ++ t ∷ []) x.between r q (and_right (fine_statement looped t) _ w) (omega arith) (omega (arith, statement_shorter t ts x.between x.before))
      ∙ ap (λ z. Some (z, r)) (append_assoc done (t ∷ []) (statement_list ss))

  indented_complete : (s : Statement) (ss : Statements) (ts r : List Lexeme) → Seq (Lone kind.indent) (Seq (SpellsStatements (next s ss)) (Lone kind.dedent)) ts r → fine_statements looped (next s ss) ≡ true → depth_statements (next s ss) ≤ n → indented_lines inner ts ≡ Some (s ∷ statement_list ss, r)
  indented_complete t ss ts r s w d =
      let x = s.behind in
      let y = x.before in
      let q : Seq (SpellsStatements ss) (Lone kind.dedent) y.between r = record { between = x.between; before = y.behind; behind = x.behind } in
      ap (indented_lines inner) s.before.same
      ∙ ap (λ o. and_read o (λ s q. more_statements inner (length q) (s ∷ []) q)) (complete t s.between y.between y.before (and_left _ _ w) (omega arith) (next_ends ss y.between r q (and_right (fine_statement looped t) _ w)))
      ∙ lines_complete ss (length y.between) (t ∷ []) y.between r q (and_right (fine_statement looped t) _ w) (omega arith) (omega arith)

  suite_by_complete : (simple : Reader Statement) → ((s : Statement) (ts r : List Lexeme) → SpellsStatement s ts r → is_simple s ≡ true → fine_statement looped s ≡ true → depth_statement s ≤ n → simple ts ≡ Some (s, r)) → (b : Body) (ts r : List Lexeme) → SpellsBody b ts r → derived_body b ≡ true → fine_body looped b ≡ true → depth_body b ≤ n → suite_by simple inner (at symbol.Newline ts) ts ≡ Some (b, r)
  suite_by_complete simple easy (line t) ts r s v w d =
      ap (λ b. suite_by simple inner b ts) (starts_apart symbol.Newline ts refl (statement_starts looped t ts r s w))
      ∙ ap (λ o. and_read o (λ s. give (line s))) (easy t ts r s v w d)
  suite_by_complete simple easy (indented finish) ts r s v w d = cc
  suite_by_complete simple easy (indented (next t ss)) ts r s v w d =
      ap (λ z. suite_by simple inner (at symbol.Newline z) z) s.before.same
      ∙ ap (λ o. and_read o (λ ss. give (indented (statements ss)))) (indented_complete t ss s.between r s.behind w d)
      ∙ ap (λ z. Some (indented (next t z), r)) (statements_list ss)

-- ---- compound statements

abbrev arms_of : Tail → List (Tree × Body)
arms_of nothing = []
arms_of (otherwise b) = []
arms_of (elif a b t) = (a, b) ∷ arms_of t

abbrev last_of : Tail → Tail
last_of nothing = nothing
last_of (otherwise b) = otherwise b
last_of (elif a b t) = last_of t

tail-arms_of : (t : Tail) → tail (arms_of t) (last_of t) ≡ t
tail-arms_of nothing = refl
tail-arms_of (otherwise b) = refl
tail-arms_of (elif a b t) = ap (elif a b) (tail-arms_of t)

either_no : (a b : Bool) → (a || b) ≡ false → (a ≡ false) × (b ≡ false)
either_no true b h = cc
either_no false b h = (refl, h)

colon_stops : (ts r : List Lexeme) → Lone (kind.mark sign.Colon) ts r → continues (symbol_at ts) < 1
colon_stops ts r s = stops_lone 1 (kind.mark sign.Colon) ts r s 0 refl (omega arith)

module _ (looped : Bool) (n : ℕ) (body : Reader Body) (complete_body : CompleteBodies looped n body) where
  arm_complete : (a : Tree) (b : Body) (ts mid r : List Lexeme) → Spells a ts mid → Seq (Lone (kind.mark sign.Colon)) (SpellsBody b) mid r → fine a ≡ true → fits 1 a ≡ true → derived_body b ≡ true → fine_body looped b ≡ true → depth a ≤ n → depth_body b ≤ n → arm (read n place.Test) body ts ≡ Some ((a, b), r)
  arm_complete a b ts mid r s q w f v u d c =
      ap (λ o. and_read o (armed (read n place.Test) body)) (read_complete n place.Test a ts mid s w f d (colon_stops mid q.between q.before))
      ∙ ap (armed (read n place.Test) body a) q.before.same
      ∙ ap (λ o. and_read o (λ b. give (a, b))) (complete_body b q.between r q.behind v u c)

  arms_complete : (t : Tail) (m : ℕ) (done : List (Tree × Body)) (ts r : List Lexeme) → SpellsTail t ts r → derived_tail t ≡ true → fine_tail looped t ≡ true → depth_tail t ≤ n → length ts ≤ m → goes_on r ≡ false → arms (read n place.Test) body m done ts ≡ Some ((done ++ arms_of t, last_of t), r)
  arms_complete nothing zero done ts r s v w d l h = ap (λ z. Some ((done, nothing), z)) s ∙ ap (λ z. Some ((z, nothing), r)) (sym (append-nil done))
  arms_complete nothing (suc m) done ts r s v w d l h =
      let k = either_no _ _ h in
      ap (arms (read n place.Test) body (suc m) done) s
      ∙ ap (λ b. arms_by (read n place.Test) body (arms (read n place.Test) body m) done b r) k.0
      ∙ ap (λ b. and_read (other_suite (read n place.Test) body b r) (λ o. give (done, o))) k.1
      ∙ ap (λ z. Some ((z, nothing), r)) (sym (append-nil done))
  arms_complete (otherwise b) zero done ts r s v w d l h = absurd (omega (arith, ap length s.before.same))
  arms_complete (otherwise b) (suc m) done ts r s v w d l h =
      let x = s.behind in
      ap (arms (read n place.Test) body (suc m) done) s.before.same
      ∙ ap (λ z. and_read (behind (symbol.Mark sign.Colon) (λ r. and_read (body r) (λ b. give (otherwise b))) z) (λ o. give (done, o))) x.before.same
      ∙ ap (λ o. and_read (and_read o (λ b. give (otherwise b))) (λ o. give (done, o))) (complete_body b x.between r x.behind v w d)
      ∙ ap (λ z. Some ((z, otherwise b), r)) (sym (append-nil done))
  arms_complete (elif a b t) zero done ts r s v w d l h = absurd (omega (arith, ap length s.before.same))
  arms_complete (elif a b t) (suc m) done ts r s v w d l h =
      let x = s.behind in
      let y = x.behind in
      let z = y.behind in
      let v1 = and_right (fits 1 a) _ v in
      let w1 = and_right (fine a) _ w in
      ap (arms (read n place.Test) body (suc m) done) s.before.same
      ∙ ap (λ o. and_read o (λ a. arms (read n place.Test) body m (done ++ a ∷ []))) (arm_complete a b s.between x.between z.between x.before (record { between = y.between; before = y.before; behind = z.before }) (and_left _ _ w) (and_left _ _ v) (and_left _ _ v1) (and_left _ _ w1) (omega arith) (omega arith))
      ∙ arms_complete t m (done ++ (a, b) ∷ []) z.between r z.behind (and_right (derived_body b) _ v1) (and_right (fine_body looped b) _ w1) (omega arith) (omega (arith, ap length s.before.same, no_longer a s.between x.between x.before, ap length y.before.same, body_longer b y.between z.between z.before)) h
      ∙ ap (λ z. Some ((z, last_of t), r)) (append_assoc done ((a, b) ∷ []) (arms_of t))

  branch_complete : (l : ℕ) (a : Tree) (b : Body) (t : Tail) (ts r : List Lexeme) → Seq (Spells a) (Seq (Lone (kind.mark sign.Colon)) (Seq (SpellsBody b) (SpellsTail t))) ts r → fits 1 a ≡ true → (derived_body b && derived_tail t) ≡ true → (fine a && (fine_body looped b && fine_tail looped t)) ≡ true → depth a ≤ n → depth_body b ≤ n → depth_tail t ≤ n → goes_on r ≡ false → branching (read n place.Test) body l ts ≡ Some (branch l a b t, r)
  branch_complete l a b t ts r s f v w da db dt h =
      let y = s.behind in
      let z = y.behind in
      let w1 = and_right (fine a) _ w in
      ap (λ o. and_read o (branched (read n place.Test) body l)) (arm_complete a b ts s.between z.between s.before (record { between = y.between; before = y.before; behind = z.before }) (and_left _ _ w) f (and_left _ _ v) (and_left _ _ w1) da db)
      ∙ ap (λ o. and_read o (λ x. give (branch l a b (tail x.0 x.1)))) (arms_complete t (length z.between) [] z.between r z.behind (and_right (derived_body b) _ v) (and_right (fine_body looped b) _ w1) dt (omega arith) h)
      ∙ ap (λ z. Some (branch l a b z, r)) (tail-arms_of t)

  in_end : ListEnd (symbol.Keyword word.In)
  in_end = record { no_name = λ m l r. refl; apart = λ ts y. ap (λ s. same_symbol (symbol.Mark sign.Comma) s) (sym (at_only (symbol.Keyword word.In) ts y)) }

  repeat_complete : (l : ℕ) (t : Target) (a : Tree) (b : Body) (ts r : List Lexeme) → Seq (SpellsTarget t) (Seq (Lone (kind.keyword word.In)) (Seq (Spells a) (Seq (Lone (kind.mark sign.Colon)) (SpellsBody b)))) ts r → derived_target t ≡ true → target_is_named t ≡ true → fits 1 a ≡ true → derived_body b ≡ true → fine a ≡ true → fine_body looped b ≡ true → depth a ≤ n → depth_body b ≤ n → repeating (read n place.Test) body l ts ≡ Some (repeat l t a b, r)
  repeat_complete l t a b ts r s dt nt f v w u da db =
      let y = s.behind in
      let z = y.behind in
      ap (λ o. and_read o (repeated (read n place.Test) body l)) (target_complete (symbol.Keyword word.In) in_end t ts s.between s.before dt nt (ap (at (symbol.Keyword word.In)) y.before.same))
      ∙ ap (repeated (read n place.Test) body l t) y.before.same
      ∙ ap (λ o. and_read o (λ a. give (repeat l t a.0 a.1))) (arm_complete a b y.between z.between r z.before z.behind w f v u da db)

-- `inner` reads statements of at most n levels
module _ (n : ℕ) (inner : Bool → Reader Statement) (complete : (looped : Bool) → CompleteStatements looped n (inner looped)) where
  pub suite_complete : (looped : Bool) → CompleteBodies looped n (suite n inner looped)
  suite_complete looped b ts r s v w d = suite_by_complete looped n (inner looped) (complete looped) (simple_at n looped) (simple_at_complete n looped) b ts r s v w d

  easy : (looped : Bool) (s : Statement) (ts r : List Lexeme) → SpellsStatement s ts r → is_simple s ≡ true → fine_statement looped s ≡ true → depth_statement s ≤ suc n → (starter_of (symbol_at ts) ≡ starter.If → ⊥) → (starter_of (symbol_at ts) ≡ starter.For → ⊥) → statement_by n inner looped (starter_of (symbol_at ts)) ts ≡ Some (s, r)
  easy looped s ts r h p w d i f = other_starter (starter_of (symbol_at ts)) i f ∙ simple_complete n looped s ts r h p w d
    where
      other_starter : (v : Starter) → (v ≡ starter.If → ⊥) → (v ≡ starter.For → ⊥) → statement_by n inner looped v ts ≡ simple_by n looped v ts
      other_starter starter.If i f = absurd (i refl)
      other_starter starter.For i f = absurd (f refl)
      other_starter starter.Pass i f = refl
      other_starter starter.Break i f = refl
      other_starter starter.Continue i f = refl
      other_starter starter.Return i f = refl
      other_starter starter.Unmarked i f = refl

  statement_by_complete : (looped : Bool) (s : Statement) (ts r : List Lexeme) → SpellsStatement s ts r → fine_statement looped s ≡ true → depth_statement s ≤ suc n → goes_on r ≡ false → statement_by n inner looped (starter_of (symbol_at ts)) ts ≡ Some (s, r)
  statement_by_complete looped (pass l) ts r s w d h = ap (λ z. statement_by n inner looped (starter_of (symbol_at z)) z) s.before ∙ ended_complete (pass l) s.between r s.behind
  statement_by_complete looped (break l) ts r s w d h = ap (λ z. statement_by n inner looped (starter_of (symbol_at z)) z) s.before ∙ ap (λ b. when b (ended (break l) s.between)) w ∙ ended_complete (break l) s.between r s.behind
  statement_by_complete looped (continue l) ts r s w d h = ap (λ z. statement_by n inner looped (starter_of (symbol_at z)) z) s.before ∙ ap (λ b. when b (ended (continue l) s.between)) w ∙ ended_complete (continue l) s.between r s.behind
  statement_by_complete looped (return l a) ts r s w d h = easy looped (return l a) ts r s refl w d (λ e. let q = sym (ap (λ z. starter_of (symbol_at z)) s.before) ∙ e in cc) (λ e. let q = sym (ap (λ z. starter_of (symbol_at z)) s.before) ∙ e in cc)
  statement_by_complete looped (assign l t a) ts r s w d h =
      let x = s.span in
      let so = and_left (sound_statement looped (assign l t a)) _ w in
      let u = unmarked_symbol (symbol_at ts) (target_opens t ts x.between x.before (and_left _ _ (and_left (derived_statement (assign l t a)) _ so))) in
      easy looped (assign l t a) ts r s refl w d (λ e. let q = sym u ∙ e in cc) (λ e. let q = sym u ∙ e in cc)
  statement_by_complete looped (augment l m o a) ts r s w d h = easy looped (augment l m o a) ts r s refl w d (λ e. let q = sym (ap (λ z. starter_of (symbol_at z)) s.before) ∙ e in cc) (λ e. let q = sym (ap (λ z. starter_of (symbol_at z)) s.before) ∙ e in cc)
  statement_by_complete looped (express l a) ts r s w d h =
      let x = s.span in
      let b = spelled_begins a ts x.between x.before (and_right (sound_statement looped (express l a)) _ w) in
      let u = unmarked_symbol (symbol_at ts) (omega (arith, b.1)) in
      easy looped (express l a) ts r s refl w d (λ e. let q = sym u ∙ e in cc) (λ e. let q = sym u ∙ e in cc)
  statement_by_complete looped (branch l a b t) ts r s w d h =
      let so = and_left (sound_statement looped (branch l a b t)) _ w in
      let dv = and_left (derived_statement (branch l a b t)) _ so in
      ap (λ z. statement_by n inner looped (starter_of (symbol_at z)) z) s.before
      ∙ branch_complete looped n (suite n inner looped) (suite_complete looped) l a b t s.between r s.behind (and_left _ _ dv) (and_right (fits 1 a) _ dv) (and_right (sound_statement looped (branch l a b t)) _ w) (omega arith) (omega arith) (omega arith) h
  statement_by_complete looped (repeat l t a b) ts r s w d h =
      let so = and_left (sound_statement looped (repeat l t a b)) _ w in
      let dv = and_left (derived_statement (repeat l t a b)) _ so in
      let d1 = and_right (derived_target t) _ dv in
      let nm = and_left _ _ (and_right (derived_statement (repeat l t a b)) _ so) in
      let ws = and_right (sound_statement looped (repeat l t a b)) _ w in
      ap (λ z. statement_by n inner looped (starter_of (symbol_at z)) z) s.before
      ∙ repeat_complete true n (suite n inner true) (suite_complete true) l t a b s.between r s.behind (and_left _ _ dv) nm (and_left _ _ d1) (and_right (fits 1 a) _ d1) (and_left _ _ ws) (and_right (fine a) _ ws) (omega arith) (omega arith)

pub statement_complete : (n : ℕ) (looped : Bool) → CompleteStatements looped n (statement n looped)
statement_complete zero looped s ts r h w d g = absurd (omega (arith, depth_statement_some s))
statement_complete (suc n) looped s ts r h w d g = statement_by_complete n (statement n) (statement_complete n) looped s ts r h w d g
