-- The reader of expressions finds the tree of each spelling, with its lines.
use Rattle.std.proofs.Common.{◌≡◌, ◌⊎◌, inl, inr, ℕ, ℤ, zero, suc, ◌≤◌, ◌<◌, ◌+◌, Bool, true, false, not, ◌||◌, nat_le, List, [], ◌∷◌, ◌++◌, length, Option, Some, None, refl, sym, ap, ◌∙◌, subst, arith, append_assoc, append-nil}
use Rattle.std.proofs.lemmas.Bool.{leb-true, leb-false, le-leb}
use Rattle.tx_tree.specs.declared.operator.BinaryOp.{BinaryOp}
use Rattle.tx_tree.specs.declared.operator.BinaryOp.TheVariants as binary_op
use Rattle.tx_tree.specs.declared.operator.UnaryOp.{UnaryOp}
use Rattle.tx_tree.specs.declared.operator.UnaryOp.TheVariants as unary_op
use Rattle.tx_tree.specs.declared.operator.CompareOp.{CompareOp}
use Rattle.tx_tree.specs.declared.operator.CompareOp.TheVariants as op
use Rattle.tx_tree.specs.declared.symbol.Keyword.{Keyword}
use Rattle.tx_tree.specs.declared.symbol.Keyword.TheVariants as word
use Rattle.tx_tree.specs.declared.symbol.Mark.{Mark}
use Rattle.tx_tree.specs.declared.symbol.Mark.TheVariants as sign
use Rattle.tx_tree.specs.declared.target.Word.{Word}
use Rattle.tx_tree.specs.declared.target.Target.{Target}
use Rattle.tx_tree.specs.Words.{binary_mark, unary_mark}
use Rattle.tx_tree.specs.Kind as kind
use Rattle.tx_tree.specs.Kind.{Kind}
use Rattle.tx_tree.specs.Tree.{Tree, nil, truth, int, text, name, paren, tuple, bare_tuple, list, dict, comprehension, call, method, index, slice, unary, binary, compare, negation, conjunction, disjunction, conditional, Trees, none, more, PairTrees, no_pair, pair, Operands, no_operand, operand, MaybeTree, absent, present, trees, pair_trees, operands}
use Rattle.tx_parse.specs.declared.symbol.Symbol.{Symbol}
use Rattle.tx_parse.specs.declared.symbol.Symbol.TheVariants as symbol
use Rattle.tx_parse.specs.declared.place.Place.{Place}
use Rattle.tx_parse.specs.declared.place.Place.TheVariants as place
use Rattle.tx_parse.specs.Lexemes.{Lexeme, lexeme, line_at}
use Rattle.tx_tree.specs.Form.{level, level_of_op, fits, fits_each, fits_pairs, fits_operands, fits_maybe, amount, amount_of_trees, amount_of_pairs, amount_of_operands, has_items, may_end, makes_tuple, derived_target, derived, sound, fine, fine_each, fine_pairs, fine_operands, fine_maybe, is_literal, identities_with_none}
use Rattle.tx_tree.specs.Depth.{depth, depth_each, depth_pairs, depth_operands, depth_maybe}
use Rattle.tx_parse.specs.Spells.{Span, Lone, Seq, On, one, SpellsMore, SpellsList, SpellsWord, SpellsOp, Spells, SpellsItems, SpellsMoreItems, SpellsPairs, SpellsMorePairs, SpellsBehind, SpellsOperands, SpellsMaybe, SpellsCondition}
use Rattle.tx_parse.specs.Calls.Front.{symbol_of, symbol_at, rest_of, same_symbol, at, binary_at, unary_at, compare_at, compare_by, not_in, is_or_not, behind_op}
use Rattle.tx_parse.specs.Calls.Reader as reader
use Rattle.tx_parse.specs.Calls.Reader.{Reader, give, and_read, when, behind, given, tighter, joint, is_joint, has_operator, joined_tree, compared_tree, op_of, literal, bracketed, bracketed_by, may_compare, trails, args, name_by, condition_by, condition, conditioned, iterated, element_by, square_by, square, atom, called, method_of, bound_by, bound, subscript_by, subscript, post, post_by, posts, postfix, unary_by, signed, operated, operations, leaning, compared_by, comparisons, comparing, negation_by, negating, joint_by, joints, joining, other_arm, test_by, choosing, a_term, a_sum, a_comparison, a_negation, a_conjunction, a_disjunction, a_test, at_place, read}
use Rattle.tx_parse.proofs.Options.{and_both, and_left, and_right}
use Rattle.tx_parse.proofs.Symbols.{same_symbol-refl}
use Rattle.tx_parse.proofs.Fronts.{at_only}
use Rattle.tx_parse.proofs.Lists.{Each, Ends, CompleteItem, items_complete, behind_complete}
use Rattle.tx_parse.proofs.Targets.{GoodWord, word_complete, ListEnd, target_complete}
use Rattle.tx_parse.proofs.Expressions.Places.{number, continues}
use Rattle.tx_parse.proofs.Expressions.Trees.{GoodTree, good_trees, list_of, trees-list_of, amount-list_of, list_of_items, list_of_more, asked, opens, spelled_begins, no_longer, strictly, op_shorter, items_longer, maybe_longer}

abbrev pub CompleteAt : ℕ → ℕ → Reader Tree → Type 0
CompleteAt p n f = (t : Tree) (ts r : List Lexeme) → Spells t ts r → fine t ≡ true → fits p t ≡ true → depth t ≤ n → continues (symbol_at r) < p → f ts ≡ Some (t, r)

abbrev pub Complete : ℕ → (Place → Reader Tree) → Type 0
Complete n f = (p : Place) → CompleteAt (number p) n (f p)

-- ---- tests that fail

pub false_by : (b : Bool) → (b ≡ true → ⊥) → b ≡ false
false_by true h = absurd (h refl)
false_by false h = refl

-- a symbol that opens no tree as tight as this one
pub opens_apart : (s : Symbol) (ts : List Lexeme) (p : ℕ) → opens s < p → p ≤ opens (symbol_at ts) → at s ts ≡ false
opens_apart s ts p h k = false_by (at s ts) (λ y. absurd (omega (arith, ap opens (at_only s ts y))))

-- a symbol that goes on with a tree of this place
pub stops_apart : (s : Symbol) (ts : List Lexeme) (p : ℕ) → p ≤ continues s → continues (symbol_at ts) < p → at s ts ≡ false
stops_apart s ts p h k = false_by (at s ts) (λ y. absurd (omega (arith, ap continues (at_only s ts y))))

pub stops_lone : (p : ℕ) (k : Kind) (ts r : List Lexeme) → Lone k ts r → (c : ℕ) → continues (symbol_of (Some k)) ≡ c → c < p → continues (symbol_at ts) < p
stops_lone p k ts r s c e h = omega (arith, ap (λ z. continues (symbol_at z)) s.same)

-- a loop has come to this tree, and has turns for what is left
pub record Reached (loop : ℕ → Tree → Reader Tree) (o : Option (Tree × List Lexeme)) (t : Tree) (r : List Lexeme) : Type 0 where
  pub turns : ℕ
  pub enough : length r ≤ turns
  pub same : o ≡ loop turns t r

-- a symbol that may end a list of trees
pub record TreeEnd (end : Symbol) : Type 0 where
  pub stops : continues end ≡ 0
  pub opens_none : opens end ≡ 0
  pub apart : (ts : List Lexeme) → at end ts ≡ true → at (symbol.Mark sign.Comma) ts ≡ false

pub stops_end : (end : Symbol) (r : List Lexeme) → continues end ≡ 0 → Ends end r → continues (symbol_at r) < 1
stops_end end r c (inl y) = omega (arith, ap continues (at_only (symbol.Mark sign.Comma) r y))
stops_end end r c (inr y) = omega (arith, ap continues (at_only end r y))

-- a level is this one, or the tree is tighter
pub split : (p : ℕ) (t : Tree) → fits p t ≡ true → (level t ≡ p) ⊎ (fits (suc p) t ≡ true)
split p t f = split_by (nat_le (suc p) (level t)) refl
  where
    split_by : (b : Bool) → nat_le (suc p) (level t) ≡ b → (level t ≡ p) ⊎ (fits (suc p) t ≡ true)
    split_by true e = inr e
    split_by false e = inl (omega (arith, leb-true p (level t) f, leb-false (suc p) (level t) e))

module _ (n : ℕ) (inner : Place → Reader Tree) (complete : Complete n inner) where
  pub test_items : (end : Symbol) → TreeEnd end → CompleteItem Spells (GoodTree 1 n) end (inner place.Test)
  test_items end e = record {
    finds = λ t ts r s g f. complete place.Test t ts r s g.good g.place_fits g.low (stops_end end r e.stops f);
    begins = λ t ts r s g. opens_apart end ts 1 (omega (arith, e.opens_none)) (let b = spelled_begins t ts r s g.good in omega (arith, b.1));
    shorter = λ t ts r s g. strictly t ts r s g.good;
    apart = e.apart;
  }

  close_end : TreeEnd (symbol.Mark sign.Close)
  close_end = record { stops = refl; opens_none = refl; apart = λ ts y. ap (λ s. same_symbol (symbol.Mark sign.Comma) s) (sym (at_only (symbol.Mark sign.Close) ts y)) }

  square_end : TreeEnd (symbol.Mark sign.CloseSquare)
  square_end = record { stops = refl; opens_none = refl; apart = λ ts y. ap (λ s. same_symbol (symbol.Mark sign.Comma) s) (sym (at_only (symbol.Mark sign.CloseSquare) ts y)) }

  -- ---- atoms

  args_complete : (es : Trees) (c : Bool) (ts r : List Lexeme) → Seq (SpellsItems es c) (Lone (kind.mark sign.Close)) ts r → fine_each es ≡ true → fits_each 1 es ≡ true → depth_each es ≤ n → may_end (amount_of_trees es) c ≡ true → args n inner ts ≡ Some ((list_of es, c), r)
  args_complete es c ts r s w f d e =
      ap (λ o. and_read o (λ x. behind (symbol.Mark sign.Close) (give x))) (items_complete Spells (GoodTree 1 n) (symbol.Mark sign.Close) (inner place.Test) (test_items (symbol.Mark sign.Close) close_end) (list_of es) c ts s.between (list_of_items es c ts s.between s.before) (good_trees 1 n es w f d) (ap (λ z. may_end z c) (amount-list_of es) ∙ e) (ap (at (symbol.Mark sign.Close)) s.behind.same))
      ∙ ap (behind (symbol.Mark sign.Close) (give (list_of es, c))) s.behind.same

  name_complete : (l : ℕ) (m : List ℕ) (ts r : List Lexeme) → Spells (name l m) ts r → fine (name l m) ≡ true → at (symbol.Mark sign.Open) r ≡ false → atom n inner ts ≡ Some (name l m, r)
  name_complete l m ts r s w h =
      ap (atom n inner) s
      ∙ ap (λ b. when b (name_by n inner l m (at (symbol.Mark sign.Open) r) r)) (and_left _ _ w)
      ∙ ap (λ b. name_by n inner l m b r) h

  -- a dot or a square bracket is no round one
  or_either : (a b : Bool) → (a || b) ≡ true → (a ≡ true) ⊎ (b ≡ true)
  or_either true b h = inl refl
  or_either false b h = inr h

  no_open : (r : List Lexeme) → (continues (symbol_at r) < 9) ⊎ (trails r ≡ true) → at (symbol.Mark sign.Open) r ≡ false
  no_open r (inl h) = stops_apart (symbol.Mark sign.Open) r 9 (omega arith) h
  no_open r (inr h) = by_either (or_either (at (symbol.Mark sign.Dot) r) (at (symbol.Mark sign.OpenSquare) r) h)
    where
      by_either : (at (symbol.Mark sign.Dot) r ≡ true) ⊎ (at (symbol.Mark sign.OpenSquare) r ≡ true) → at (symbol.Mark sign.Open) r ≡ false
      by_either (inl y) = ap (λ s. same_symbol (symbol.Mark sign.Open) s) (sym (at_only (symbol.Mark sign.Dot) r y))
      by_either (inr y) = ap (λ s. same_symbol (symbol.Mark sign.Open) s) (sym (at_only (symbol.Mark sign.OpenSquare) r y))

  called_longer : (m : Word) (es : Trees) (c : Bool) (ts r : List Lexeme) → Seq (SpellsWord m) (Seq (Lone (kind.mark sign.Open)) (Seq (SpellsItems es c) (Lone (kind.mark sign.Close)))) ts r → length r ≤ length ts
  called_longer m es c ts r s =
      let x = s.behind in
      let y = x.behind in
      omega (arith, ap length s.before, ap length x.before.same, items_longer es c x.between y.between y.before, ap length y.behind.same)

  call_complete : (l : ℕ) (m : List ℕ) (es : Trees) (c : Bool) (ts r : List Lexeme) → Spells (call l m es c) ts r → fine (call l m es c) ≡ true → depth (call l m es c) ≤ suc n → atom n inner ts ≡ Some (call l m es c, r)
  call_complete l m es c ts r s w d =
      let x = s.behind in
      let a = and_left (sound (call l m es c)) _ w in
      let dv = and_left (derived (call l m es c)) _ a in
      ap (atom n inner) s.before
      ∙ ap (λ b. when b (name_by n inner l m (at (symbol.Mark sign.Open) s.between) s.between)) (and_left _ _ (and_right (derived (call l m es c)) _ a))
      ∙ ap (λ z. name_by n inner l m (at (symbol.Mark sign.Open) z) z) x.before.same
      ∙ ap (λ o. and_read o (λ x r. Some (call l m (trees x.0) x.1, r))) (args_complete es c x.between r x.behind (and_right (sound (call l m es c)) _ w) (and_right (may_end (amount_of_trees es) c) _ dv) (omega arith) (and_left _ _ dv))
      ∙ ap (λ z. Some (call l m z c, r)) (trees-list_of es)

  literal_complete : (k : Keyword) (l : ℕ) (t : Tree) (ts r : List Lexeme) → one (kind.keyword k) l ts r → literal k l ≡ Some t → atom n inner ts ≡ Some (t, r)
  literal_complete k l t ts r s e = ap (atom n inner) s ∙ ap (λ o. given o r) e

  truth_complete : (b : Bool) (l : ℕ) (ts r : List Lexeme) → Spells (truth l b) ts r → atom n inner ts ≡ Some (truth l b, r)
  truth_complete true l ts r s = literal_complete word.True l (truth l true) ts r s refl
  truth_complete false l ts r s = literal_complete word.False l (truth l false) ts r s refl

  int_complete : (l : ℕ) (v : ℤ) (ts r : List Lexeme) → Spells (int l v) ts r → fine (int l v) ≡ true → atom n inner ts ≡ Some (int l v, r)
  int_complete l v ts r s w = ap (atom n inner) s ∙ ap (λ b. when b (Some (int l v, r))) (and_left (is_literal (int l v)) _ w)

  paren_complete : (l : ℕ) (a : Tree) (ts r : List Lexeme) → Spells (paren l a) ts r → fine (paren l a) ≡ true → depth (paren l a) ≤ suc n → atom n inner ts ≡ Some (paren l a, r)
  paren_complete l a ts r s w d =
      let x = s.behind in
      let f = asked (paren l a) _ w in
      ap (atom n inner) s.before
      ∙ ap (λ o. and_read o (λ x. give (bracketed l x))) (args_complete (more a none) false s.between r (record { between = x.between; before = record { between = x.between; before = x.before; behind = refl }; behind = x.behind }) (and_both _ _ (and_right (sound (paren l a)) _ w) refl) (and_both _ _ f refl) (omega arith) refl)

  tuple_bracketed : (l : ℕ) (es : Trees) (c : Bool) → makes_tuple (amount_of_trees es) c ≡ true → bracketed_by l (list_of es) c ≡ tuple l es c
  tuple_bracketed l none c h = refl
  tuple_bracketed l (more a none) true h = refl
  tuple_bracketed l (more a none) false h = cc
  tuple_bracketed l (more a (more b es)) c h = ap (λ z. tuple l (more a (more b z)) c) (trees-list_of es)

  tuple_ends : (es : Trees) (c : Bool) → makes_tuple (amount_of_trees es) c ≡ true → may_end (amount_of_trees es) c ≡ true
  tuple_ends none c h = h
  tuple_ends (more a none) c h = refl
  tuple_ends (more a (more b es)) c h = refl

  tuple_complete : (l : ℕ) (es : Trees) (c : Bool) (ts r : List Lexeme) → Spells (tuple l es c) ts r → fine (tuple l es c) ≡ true → depth (tuple l es c) ≤ suc n → atom n inner ts ≡ Some (tuple l es c, r)
  tuple_complete l es c ts r s w d =
      let dv = asked (tuple l es c) _ w in
      let m = and_left (makes_tuple (amount_of_trees es) c) _ dv in
      ap (atom n inner) s.before
      ∙ ap (λ o. and_read o (λ x. give (bracketed l x))) (args_complete es c s.between r s.behind (and_right (sound (tuple l es c)) _ w) (and_right (makes_tuple (amount_of_trees es) c) _ dv) (omega arith) (tuple_ends es c m))
      ∙ ap (λ z. Some (z, r)) (tuple_bracketed l es c m)

  list_complete : (l : ℕ) (es : Trees) (c : Bool) (ts r : List Lexeme) → Spells (list l es c) ts r → fine (list l es c) ≡ true → depth (list l es c) ≤ suc n → atom n inner ts ≡ Some (list l es c, r)
  list_complete l none true ts r s w d = let dv = asked (list l none true) true w in cc
  list_complete l none false ts r s w d =
      let x = s.behind in
      ap (atom n inner) s.before ∙ ap (square n inner l) (x.before ∙ x.behind.same)
  list_complete l (more a es) c ts r s w d =
      let x = s.behind in
      let y = x.before in
      let dv = asked (list l (more a es) c) _ w in
      let fs = and_right (may_end (amount_of_trees (more a es)) c) _ dv in
      let ws = and_right (sound (list l (more a es) c)) _ w in
      let b = spelled_begins a s.between y.between y.before (and_left _ _ ws) in
      let first = complete place.Test a s.between y.between y.before (and_left _ _ ws) (and_left _ _ fs) (omega arith) (stops_end (symbol.Mark sign.CloseSquare) y.between refl (ends_trees es c y.between x.between y.behind (ap (at (symbol.Mark sign.CloseSquare)) x.behind.same))) in
      ap (atom n inner) s.before
      ∙ ap (λ b. square_by n inner l b s.between) (opens_apart (symbol.Mark sign.CloseSquare) s.between 1 (omega arith) (omega (arith, b.1)))
      ∙ ap (λ o. and_read o (λ a r. element_by n inner l a (at (symbol.Keyword word.For) r) r)) first
      ∙ ap (λ b. element_by n inner l a b y.between) (no_for es c y.between x.between y.behind (ap (at (symbol.Keyword word.For)) x.behind.same))
      ∙ ap (λ o. and_read o (λ x. behind (symbol.Mark sign.CloseSquare) (give (list l (trees x.0) x.1)))) (behind_complete Spells (GoodTree 1 n) (symbol.Mark sign.CloseSquare) (inner place.Test) (test_items (symbol.Mark sign.CloseSquare) square_end) a (list_of es) c y.between x.between (list_of_more es c y.between x.between y.behind) (good_trees 1 n es (and_right (fine a) _ ws) (and_right (fits 1 a) _ fs) (omega arith)) (ap (at (symbol.Mark sign.CloseSquare)) x.behind.same))
      ∙ ap (behind (symbol.Mark sign.CloseSquare) (give (list l (trees (a ∷ list_of es)) c))) x.behind.same
      ∙ ap (λ z. Some (list l (more a z) c, r)) (trees-list_of es)
    where
      ends_trees : (es : Trees) (c : Bool) (ts r : List Lexeme) → SpellsMoreItems es c ts r → at (symbol.Mark sign.CloseSquare) r ≡ true → Ends (symbol.Mark sign.CloseSquare) ts
      ends_trees none false ts r s e = inr (ap (at (symbol.Mark sign.CloseSquare)) s ∙ e)
      ends_trees none true ts r s e = inl (ap (at (symbol.Mark sign.Comma)) s.same)
      ends_trees (more b es) c ts r s e = inl (ap (at (symbol.Mark sign.Comma)) s.before.same)

      no_for : (es : Trees) (c : Bool) (ts r : List Lexeme) → SpellsMoreItems es c ts r → at (symbol.Keyword word.For) r ≡ false → at (symbol.Keyword word.For) ts ≡ false
      no_for none false ts r s e = ap (at (symbol.Keyword word.For)) s ∙ e
      no_for none true ts r s e = ap (at (symbol.Keyword word.For)) s.same
      no_for (more b es) c ts r s e = ap (at (symbol.Keyword word.For)) s.before.same

  condition_complete : (m : MaybeTree) (ts r : List Lexeme) → SpellsCondition m ts r → fine_maybe m ≡ true → fits_maybe 2 m ≡ true → depth_maybe m ≤ n → at (symbol.Keyword word.If) r ≡ false → continues (symbol_at r) < 2 → condition n inner ts ≡ Some (m, r)
  condition_complete absent ts r s w f d e h = ap (λ b. condition_by n inner b ts) (ap (at (symbol.Keyword word.If)) s ∙ e) ∙ ap (λ z. Some (absent, z)) s
  condition_complete (present a) ts r s w f d e h =
      ap (condition n inner) s.before.same
      ∙ ap (λ o. and_read o (λ c r. Some (present c, r))) (complete place.Or a s.between r s.behind w f d h)

  in_end : ListEnd (symbol.Keyword word.In)
  in_end = record { no_name = λ m l r. refl; apart = λ ts y. ap (λ s. same_symbol (symbol.Mark sign.Comma) s) (sym (at_only (symbol.Keyword word.In) ts y)) }

  condition_stops : (m : MaybeTree) (ts r : List Lexeme) → SpellsCondition m ts r → continues (symbol_at r) < 2 → continues (symbol_at ts) < 2
  condition_stops absent ts r s h = omega (arith, ap (λ z. continues (symbol_at z)) s)
  condition_stops (present a) ts r s h = omega (arith, ap (λ z. continues (symbol_at z)) s.before.same)

  comprehension_complete : (l : ℕ) (a : Tree) (t : Target) (i : Tree) (c : MaybeTree) (ts r : List Lexeme) → Spells (comprehension l a t i c) ts r → fine (comprehension l a t i c) ≡ true → depth (comprehension l a t i c) ≤ suc n → atom n inner ts ≡ Some (comprehension l a t i c, r)
  comprehension_complete l a t i c ts r s w d =
      let x = s.behind in
      let y = x.behind in
      let z = y.behind in
      let u = z.behind in
      let v = u.behind in
      let k = v.behind in
      let whole = comprehension l a t i c in
      let so = and_left (sound whole) _ w in
      let dv = and_left (derived whole) _ so in
      let d1 = and_right (fits 1 a) _ dv in
      let d2 = and_right (derived_target t) _ d1 in
      let nm = and_left _ _ (and_right (derived whole) _ so) in
      let ws = and_right (sound whole) _ w in
      let w1 = and_right (fine a) _ ws in
      let b = spelled_begins a s.between x.between x.before (and_left _ _ ws) in
      let last : continues (symbol_at k.between) < 2 = omega (arith, ap (λ q. continues (symbol_at q)) k.behind.same) in
      ap (atom n inner) s.before
      ∙ ap (λ b. square_by n inner l b s.between) (opens_apart (symbol.Mark sign.CloseSquare) s.between 1 (omega arith) (omega (arith, b.1)))
      ∙ ap (λ o. and_read o (λ a r. element_by n inner l a (at (symbol.Keyword word.For) r) r)) (complete place.Test a s.between x.between x.before (and_left _ _ ws) (and_left _ _ dv) (omega arith) (stops_lone 1 (kind.keyword word.For) x.between y.between y.before 0 refl (omega arith)))
      ∙ ap (λ q. element_by n inner l a (at (symbol.Keyword word.For) q) q) y.before.same
      ∙ ap (λ o. and_read o (λ t. behind (symbol.Keyword word.In) (iterated n inner l a t))) (target_complete (symbol.Keyword word.In) in_end t y.between z.between z.before (and_left _ _ d1) nm (ap (at (symbol.Keyword word.In)) u.before.same))
      ∙ ap (behind (symbol.Keyword word.In) (iterated n inner l a t)) u.before.same
      ∙ ap (λ o. and_read o (conditioned n inner l a t)) (complete place.Or i u.between v.between v.before (and_left _ _ w1) (and_left _ _ d2) (omega arith) (condition_stops c v.between k.between k.before last))
      ∙ ap (λ o. and_read o (λ c. behind (symbol.Mark sign.CloseSquare) (give (comprehension l a t i c)))) (condition_complete c v.between k.between k.before (and_right (fine i) _ w1) (and_right (fits 2 i) _ d2) (omega arith) (ap (at (symbol.Keyword word.If)) k.behind.same) last)
      ∙ ap (behind (symbol.Mark sign.CloseSquare) (give (comprehension l a t i c))) k.behind.same

  -- ---- dictionaries

  abbrev PairSpan : Tree × Tree → Span
  PairSpan p = Seq (Spells p.0) (Seq (Lone (kind.mark sign.Colon)) (Spells p.1))

  record GoodPair (p : Tree × Tree) : Type 0 where
    key : GoodTree 1 n p.0
    value : GoodTree 1 n p.1

  pair_complete : (p : Tree × Tree) (ts r : List Lexeme) → PairSpan p ts r → GoodPair p → Ends (symbol.Mark sign.CloseBrace) r → reader.pair n inner ts ≡ Some (p, r)
  pair_complete p ts r s g e =
      let x = s.behind in
      ap (λ o. and_read o (λ a. behind (symbol.Mark sign.Colon) (λ r. and_read (inner place.Test r) (λ b. give (a, b))))) (complete place.Test p.0 ts s.between s.before g.key.good g.key.place_fits g.key.low (stops_lone 1 (kind.mark sign.Colon) s.between x.between x.before 0 refl (omega arith)))
      ∙ ap (behind (symbol.Mark sign.Colon) (λ r. and_read (inner place.Test r) (λ b. give (p.0, b)))) x.before.same
      ∙ ap (λ o. and_read o (λ b. give (p.0, b))) (complete place.Test p.1 x.between r x.behind g.value.good g.value.place_fits g.value.low (stops_end (symbol.Mark sign.CloseBrace) r refl e))

  pairs_items : CompleteItem PairSpan GoodPair (symbol.Mark sign.CloseBrace) (reader.pair n inner)
  pairs_items = record {
    finds = pair_complete;
    begins = λ p ts r s g. opens_apart (symbol.Mark sign.CloseBrace) ts 1 (omega arith) (let b = spelled_begins p.0 ts s.between s.before g.key.good in omega (arith, b.1));
    shorter = λ p ts r s g. let x = s.behind in omega (arith, strictly p.0 ts s.between s.before g.key.good, ap length x.before.same, no_longer p.1 x.between r x.behind);
    apart = λ ts y. ap (λ s. same_symbol (symbol.Mark sign.Comma) s) (sym (at_only (symbol.Mark sign.CloseBrace) ts y));
  }

  abbrev pair_list : PairTrees → List (Tree × Tree)
  pair_list no_pair = []
  pair_list (pair a b ps) = (a, b) ∷ pair_list ps

  pair_trees_list : (ps : PairTrees) → pair_trees (pair_list ps) ≡ ps
  pair_trees_list no_pair = refl
  pair_trees_list (pair a b ps) = ap (pair a b) (pair_trees_list ps)

  more_pair_list : (ps : PairTrees) (c : Bool) (ts r : List Lexeme) → SpellsMorePairs ps c ts r → SpellsMore PairSpan (pair_list ps) c ts r
  more_pair_list no_pair c ts r s = s
  more_pair_list (pair a b ps) c ts r s =
      let x = s.behind in
      record { between = s.between; before = s.before; behind = record { between = x.between; before = x.before; behind = more_pair_list ps c x.between r x.behind } }

  some_pair_list : (ps : PairTrees) (c : Bool) (ts r : List Lexeme) → SpellsPairs ps c ts r → SpellsList PairSpan (pair_list ps) c ts r
  some_pair_list no_pair c ts r s = s
  some_pair_list (pair a b ps) c ts r s = record { between = s.between; before = s.before; behind = more_pair_list ps c s.between r s.behind }

  good_pairs : (ps : PairTrees) → fine_pairs ps ≡ true → fits_pairs ps ≡ true → depth_pairs ps ≤ n → Each GoodPair (pair_list ps)
  good_pairs no_pair w f d = tt
  good_pairs (pair a b ps) w f d =
      let w1 = and_right (fine a) _ w in
      let f1 = and_right (fits 1 a) _ f in
      (record { key = record { good = and_left _ _ w; place_fits = and_left _ _ f; low = omega arith }; value = record { good = and_left _ _ w1; place_fits = and_left _ _ f1; low = omega arith } }, good_pairs ps (and_right (fine b) _ w1) (and_right (fits 1 b) _ f1) (omega arith))

  amount_pair_list : (ps : PairTrees) → amount (pair_list ps) ≡ amount_of_pairs ps
  amount_pair_list no_pair = refl
  amount_pair_list (pair a b no_pair) = refl
  amount_pair_list (pair a b (pair c d ps)) = refl

  dict_complete : (l : ℕ) (ps : PairTrees) (c : Bool) (ts r : List Lexeme) → Spells (dict l ps c) ts r → fine (dict l ps c) ≡ true → depth (dict l ps c) ≤ suc n → atom n inner ts ≡ Some (dict l ps c, r)
  dict_complete l ps c ts r s w d =
      let x = s.behind in
      let dv = asked (dict l ps c) _ w in
      ap (atom n inner) s.before
      ∙ ap (λ o. and_read o (λ x. behind (symbol.Mark sign.CloseBrace) (give (dict l (pair_trees x.0) x.1)))) (items_complete PairSpan GoodPair (symbol.Mark sign.CloseBrace) (reader.pair n inner) pairs_items (pair_list ps) c s.between x.between (some_pair_list ps c s.between x.between x.before) (good_pairs ps (and_right (sound (dict l ps c)) _ w) (and_right (may_end (amount_of_pairs ps) c) _ dv) (omega arith)) (ap (λ z. may_end z c) (amount_pair_list ps) ∙ and_left _ _ dv) (ap (at (symbol.Mark sign.CloseBrace)) x.behind.same))
      ∙ ap (behind (symbol.Mark sign.CloseBrace) (give (dict l (pair_trees (pair_list ps)) c))) x.behind.same
      ∙ ap (λ z. Some (dict l z c, r)) (pair_trees_list ps)

  -- ---- behind an atom

  abbrev Posted : List Lexeme → Tree → List Lexeme → Type 0
  Posted ts = Reached (λ m. posts n inner m (line_at ts)) (postfix n inner ts)

  atom_reach : (t : Tree) (ts r : List Lexeme) → atom n inner ts ≡ Some (t, r) → Posted ts t r
  atom_reach t ts r h = record { turns = length r; enough = omega arith; same = ap (λ o. and_read o (λ a r. posts n inner (length r) (line_at ts) a r)) h }

  -- one step more, which takes what is read behind a dot or a bracket
  post_step : (ts : List Lexeme) (a t : Tree) (mid r : List Lexeme) (dot : Bool) → Posted ts a mid → trails mid ≡ true → at (symbol.Mark sign.Dot) mid ≡ dot → depth a ≤ n → post n inner dot (line_at ts) a (rest_of mid) ≡ Some (t, r) → length r < length mid → Posted ts t r
  post_step ts a t mid r dot x e k d h l = by_turns x.turns x.enough x.same
    where
      by_turns : (m : ℕ) → length mid ≤ m → postfix n inner ts ≡ posts n inner m (line_at ts) a mid → Posted ts t r
      by_turns zero q p = absurd (omega arith)
      by_turns (suc m) q p = record {
        turns = m;
        enough = omega arith;
        same = p
            ∙ ap (λ b. post_by n inner (posts n inner m (line_at ts)) (line_at ts) a b (at (symbol.Mark sign.Dot) mid) mid) e
            ∙ ap (λ b. when b (and_read (post n inner (at (symbol.Mark sign.Dot) mid) (line_at ts) a (rest_of mid)) (posts n inner m (line_at ts)))) (le-leb (depth a) n d)
            ∙ ap (λ b. and_read (post n inner b (line_at ts) a (rest_of mid)) (posts n inner m (line_at ts))) k
            ∙ ap (λ o. and_read o (posts n inner m (line_at ts))) h;
      }

  called_complete : (l : ℕ) (a : Tree) (m : Word) (es : Trees) (c : Bool) (mid r : List Lexeme) → Seq (SpellsWord m) (Seq (Lone (kind.mark sign.Open)) (Seq (SpellsItems es c) (Lone (kind.mark sign.Close)))) mid r → GoodWord m → fine_each es ≡ true → fits_each 1 es ≡ true → depth_each es ≤ n → may_end (amount_of_trees es) c ≡ true → method_of n inner l a mid ≡ Some (method l a m es c, r)
  called_complete l a m es c mid r s g w f d e =
      let x = s.behind in
      ap (λ o. and_read o (λ w. behind (symbol.Mark sign.Open) (called n inner l a w))) (word_complete m mid s.between s.before g)
      ∙ ap (behind (symbol.Mark sign.Open) (called n inner l a m)) x.before.same
      ∙ ap (λ o. and_read o (λ y. give (method l a m (trees y.0) y.1))) (args_complete es c x.between r x.behind w f d e)
      ∙ ap (λ z. Some (method l a m z c, r)) (trees-list_of es)

  bound_complete : (end : Symbol) → opens end ≡ 0 → (m : MaybeTree) (ts r : List Lexeme) → SpellsMaybe m ts r → fine_maybe m ≡ true → fits_maybe 1 m ≡ true → depth_maybe m ≤ n → (end ≡ symbol_at r) ⊎ ((x : Tree) × (m ≡ present x)) → continues (symbol_at r) < 1 → bound n inner end ts ≡ Some (m, r)
  bound_complete end o absent ts r s w f d (inl e) h = ap (λ b. bound_by n inner b ts) (ap (at end) s ∙ ap (λ z. same_symbol end z) (sym e) ∙ same_symbol-refl end) ∙ ap (λ z. Some (absent, z)) s
  bound_complete end o absent ts r s w f d (inr e) h = cc
  bound_complete end o (present a) ts r s w f d e h =
      let b = spelled_begins a ts r s w in
      ap (λ b. bound_by n inner b ts) (opens_apart end ts 1 (omega (arith, o)) (omega (arith, b.1)))
      ∙ ap (λ q. and_read q (λ a. give (present a))) (complete place.Test a ts r s w f d h)

  subscript_complete : (l : ℕ) (a i : Tree) (mid r : List Lexeme) → Seq (Spells i) (Lone (kind.mark sign.CloseSquare)) mid r → fine i ≡ true → fits 1 i ≡ true → depth i ≤ n → subscript n inner l a mid ≡ Some (index l a i, r)
  subscript_complete l a i mid r s w f d =
      ap (λ o. and_read o (λ i r. subscript_by n inner l a i (at (symbol.Mark sign.Colon) r) r)) (bound_complete (symbol.Mark sign.Colon) refl (present i) mid s.between s.before w f d (inr (i, refl)) (stops_lone 1 (kind.mark sign.CloseSquare) s.between r s.behind 0 refl (omega arith)))
      ∙ ap (λ q. subscript_by n inner l a (present i) (at (symbol.Mark sign.Colon) q) q) s.behind.same

  slice_complete : (l : ℕ) (a : Tree) (i j : MaybeTree) (mid r : List Lexeme) → Seq (SpellsMaybe i) (Seq (Lone (kind.mark sign.Colon)) (Seq (SpellsMaybe j) (Lone (kind.mark sign.CloseSquare)))) mid r → fine_maybe i ≡ true → fits_maybe 1 i ≡ true → depth_maybe i ≤ n → fine_maybe j ≡ true → fits_maybe 1 j ≡ true → depth_maybe j ≤ n → subscript n inner l a mid ≡ Some (slice l a i j, r)
  slice_complete l a i j mid r s wi fi di wj fj dj =
      let x = s.behind in
      let y = x.behind in
      ap (λ o. and_read o (λ i r. subscript_by n inner l a i (at (symbol.Mark sign.Colon) r) r)) (bound_complete (symbol.Mark sign.Colon) refl i mid s.between s.before wi fi di (inl (sym (ap symbol_at x.before.same))) (stops_lone 1 (kind.mark sign.Colon) s.between x.between x.before 0 refl (omega arith)))
      ∙ ap (λ q. subscript_by n inner l a i (at (symbol.Mark sign.Colon) q) q) x.before.same
      ∙ ap (λ o. and_read o (λ j. behind (symbol.Mark sign.CloseSquare) (give (slice l a i j)))) (bound_complete (symbol.Mark sign.CloseSquare) refl j x.between y.between y.before wj fj dj (inl (sym (ap symbol_at y.behind.same))) (stops_lone 1 (kind.mark sign.CloseSquare) y.between r y.behind 0 refl (omega arith)))
      ∙ ap (behind (symbol.Mark sign.CloseSquare) (give (slice l a i j))) y.behind.same

  relined : (ts : List Lexeme) (make : ℕ → Tree) (l : ℕ) (r : List Lexeme) → line_at ts ≡ l → Posted ts (make (line_at ts)) r → Posted ts (make l) r
  relined ts make l r e x = subst (λ z. Posted ts (make z) r) e x

  postfix_reach : (t : Tree) (ts r : List Lexeme) → Spells t ts r → fine t ≡ true → fits 9 t ≡ true → depth t ≤ suc n → (continues (symbol_at r) < 9) ⊎ (trails r ≡ true) → Posted ts t r
  postfix_reach (nil l) ts r s w f d h = atom_reach (nil l) ts r (literal_complete word.None l (nil l) ts r s refl)
  postfix_reach (truth l b) ts r s w f d h = atom_reach (truth l b) ts r (truth_complete b l ts r s)
  postfix_reach (int l v) ts r s w f d h = atom_reach (int l v) ts r (int_complete l v ts r s w)
  postfix_reach (text l v) ts r s w f d h = atom_reach (text l v) ts r (ap (atom n inner) s)
  postfix_reach (name l m) ts r s w f d h = atom_reach (name l m) ts r (name_complete l m ts r s w (no_open r h))
  postfix_reach (paren l a) ts r s w f d h = atom_reach (paren l a) ts r (paren_complete l a ts r s w d)
  postfix_reach (tuple l es c) ts r s w f d h = atom_reach (tuple l es c) ts r (tuple_complete l es c ts r s w d)
  postfix_reach (list l es c) ts r s w f d h = atom_reach (list l es c) ts r (list_complete l es c ts r s w d)
  postfix_reach (dict l ps c) ts r s w f d h = atom_reach (dict l ps c) ts r (dict_complete l ps c ts r s w d)
  postfix_reach (comprehension l a t i c) ts r s w f d h = atom_reach (comprehension l a t i c) ts r (comprehension_complete l a t i c ts r s w d)
  postfix_reach (call l m es c) ts r s w f d h = atom_reach (call l m es c) ts r (call_complete l m es c ts r s w d)
  postfix_reach (method l a m es c) ts r s w f d h =
      let b = s.span in
      let x = b.behind in
      let so = and_left (sound (method l a m es c)) _ w in
      let dv = and_left (derived (method l a m es c)) _ so in
      let d1 = and_right (fits 9 a) _ dv in
      let ws = and_right (sound (method l a m es c)) _ w in
      relined ts (λ z. method z a m es c) l r s.start
      (post_step ts a (method (line_at ts) a m es c) b.between r true
      (postfix_reach a ts b.between b.before (and_left _ _ ws) (and_left _ _ dv) (omega arith) (inr (ap trails x.before.same)))
      (ap trails x.before.same) (ap (at (symbol.Mark sign.Dot)) x.before.same) (omega arith)
      (ap (λ z. method_of n inner (line_at ts) a (rest_of z)) x.before.same ∙ called_complete (line_at ts) a m es c x.between r x.behind (and_left _ _ (and_right (derived (method l a m es c)) _ so)) (and_right (fine a) _ ws) (and_right (may_end (amount_of_trees es) c) _ d1) (omega arith) (and_left _ _ d1))
      (omega (arith, ap length x.before.same, called_longer m es c x.between r x.behind)))
  postfix_reach (index l a i) ts r s w f d h =
      let b = s.span in
      let x = b.behind in
      let y = x.behind in
      let dv = asked (index l a i) _ w in
      let ws = and_right (sound (index l a i)) _ w in
      relined ts (λ z. index z a i) l r s.start
      (post_step ts a (index (line_at ts) a i) b.between r false
      (postfix_reach a ts b.between b.before (and_left _ _ ws) (and_left _ _ dv) (omega arith) (inr (ap trails x.before.same)))
      (ap trails x.before.same) (ap (at (symbol.Mark sign.Dot)) x.before.same) (omega arith)
      (ap (λ z. subscript n inner (line_at ts) a (rest_of z)) x.before.same ∙ subscript_complete (line_at ts) a i x.between r y (and_right (fine a) _ ws) (and_right (fits 9 a) _ dv) (omega arith))
      (omega (arith, ap length x.before.same, no_longer i x.between y.between y.before, ap length y.behind.same)))
  postfix_reach (slice l a i j) ts r s w f d h =
      let b = s.span in
      let x = b.behind in
      let y = x.behind in
      let z = y.behind in
      let u = z.behind in
      let dv = asked (slice l a i j) _ w in
      let d1 = and_right (fits 9 a) _ dv in
      let ws = and_right (sound (slice l a i j)) _ w in
      let w1 = and_right (fine a) _ ws in
      relined ts (λ z. slice z a i j) l r s.start
      (post_step ts a (slice (line_at ts) a i j) b.between r false
      (postfix_reach a ts b.between b.before (and_left _ _ ws) (and_left _ _ dv) (omega arith) (inr (ap trails x.before.same)))
      (ap trails x.before.same) (ap (at (symbol.Mark sign.Dot)) x.before.same) (omega arith)
      (ap (λ q. subscript n inner (line_at ts) a (rest_of q)) x.before.same ∙ slice_complete (line_at ts) a i j x.between r y (and_left _ _ w1) (and_left _ _ d1) (omega arith) (and_right (fine_maybe i) _ w1) (and_right (fits_maybe 1 i) _ d1) (omega arith))
      (omega (arith, ap length x.before.same, maybe_longer i x.between y.between y.before, ap length z.before.same, maybe_longer j z.between u.between u.before, ap length u.behind.same)))
  postfix_reach (bare_tuple l es c) ts r s w f d h = cc
  postfix_reach (unary l o a) ts r s w f d h = cc
  postfix_reach (binary l a o b) ts r s w f d h = absurd (loose_op o f)
    where
      loose_op : (o : BinaryOp) → nat_le 9 (level_of_op o) ≡ true → ⊥
      loose_op binary_op.Add f = cc
      loose_op binary_op.Sub f = cc
      loose_op binary_op.Mul f = cc
      loose_op binary_op.FloorDiv f = cc
      loose_op binary_op.Mod f = cc
  postfix_reach (compare l a os) ts r s w f d h = cc
  postfix_reach (negation l a) ts r s w f d h = cc
  postfix_reach (conjunction l a es) ts r s w f d h = cc
  postfix_reach (disjunction l a es) ts r s w f d h = cc
  postfix_reach (conditional l a t b) ts r s w f d h = cc

  trails_stop : (r : List Lexeme) → continues (symbol_at r) < 9 → trails r ≡ false
  trails_stop r h =
      ap (λ b. b || at (symbol.Mark sign.OpenSquare) r) (stops_apart (symbol.Mark sign.Dot) r 9 (omega arith) h) ∙ stops_apart (symbol.Mark sign.OpenSquare) r 9 (omega arith) h

  posts_stop : (m l : ℕ) (t : Tree) (r : List Lexeme) → continues (symbol_at r) < 9 → posts n inner m l t r ≡ Some (t, r)
  posts_stop zero l t r h = refl
  posts_stop (suc m) l t r h = ap (λ b. post_by n inner (posts n inner m l) l t b (at (symbol.Mark sign.Dot) r) r) (trails_stop r h)

  postfix_complete : CompleteAt 9 (suc n) (postfix n inner)
  postfix_complete t ts r s w f d h =
      let x = postfix_reach t ts r s w f d (inl h) in
      x.same ∙ posts_stop x.turns (line_at ts) t r h

  -- ---- signs

  sign_is : (o : UnaryOp) → unary_at (symbol.Mark (unary_mark o)) ≡ Some o
  sign_is unary_op.Minus = refl
  sign_is unary_op.Plus = refl

  no_sign : (s : Symbol) → 9 ≤ opens s → unary_at s ≡ None
  no_sign (symbol.Mark sign.Minus) h = absurd (omega arith)
  no_sign (symbol.Mark sign.Plus) h = absurd (omega arith)
  no_sign _ h = refl

  op_not_unary : (o : BinaryOp) → level_of_op o ≡ 8 → ⊥
  op_not_unary binary_op.Add e = cc
  op_not_unary binary_op.Sub e = cc
  op_not_unary binary_op.Mul e = cc
  op_not_unary binary_op.FloorDiv e = cc
  op_not_unary binary_op.Mod e = cc

  unary_complete : (t : Tree) (ts r : List Lexeme) → level t ≡ 8 → Spells t ts r → fine t ≡ true → depth t ≤ suc n → continues (symbol_at r) < 8 → signed n inner ts ≡ Some (t, r)
  unary_complete (unary l o a) ts r e s w d h =
      ap (signed n inner) s.before
      ∙ ap (λ z. unary_by n inner z (lexeme (kind.mark (unary_mark o)) l ∷ s.between)) (sign_is o)
      ∙ ap (λ z. and_read z (λ a. give (unary l o a))) (complete place.Unary a s.between r s.behind (and_right (sound (unary l o a)) _ w) (asked (unary l o a) _ w) (omega arith) h)
  unary_complete (binary l a o b) ts r e s w d h = absurd (op_not_unary o e)
  unary_complete _ ts r e s w d h = absurd (omega arith)

  signed_complete : CompleteAt 8 (suc n) (signed n inner)
  signed_complete t ts r s w f d h = by_level (split 8 t f)
    where
      by_level : (level t ≡ 8) ⊎ (fits 9 t ≡ true) → signed n inner ts ≡ Some (t, r)
      by_level (inl e) = unary_complete t ts r e s w d h
      by_level (inr g) =
          let b = spelled_begins t ts r s w in
          let l = leb-true 9 (level t) g in
          ap (λ z. unary_by n inner z ts) (no_sign (symbol_at ts) (omega (arith, b.0)))
          ∙ postfix_complete t ts r s w g d (omega arith)

  -- ---- operators

  op_number : (p : Place) → has_operator p ≡ true → (6 ≤ number p) × (number p ≤ 7)
  op_number place.Sum h = (omega arith, omega arith)
  op_number place.Term h = (omega arith, omega arith)
  op_number _ h = cc

  tighter_number : (p : Place) → has_operator p ≡ true → number (tighter p) ≡ suc (number p)
  tighter_number place.Sum h = refl
  tighter_number place.Term h = refl
  tighter_number _ h = cc

  -- the operator of a node of this place, as it is found
  op_found : (p : Place) (o : BinaryOp) → has_operator p ≡ true → level_of_op o ≡ number p → op_of p (binary_at (symbol.Mark (binary_mark o))) ≡ Some o
  op_found place.Sum binary_op.Add h e = refl
  op_found place.Sum binary_op.Sub h e = refl
  op_found place.Sum _ h e = absurd (omega arith)
  op_found place.Term binary_op.Mul h e = refl
  op_found place.Term binary_op.FloorDiv h e = refl
  op_found place.Term binary_op.Mod h e = refl
  op_found place.Term _ h e = absurd (omega arith)
  op_found _ o h e = cc

  mark_goes_on : (o : BinaryOp) → continues (symbol.Mark (binary_mark o)) ≡ level_of_op o
  mark_goes_on binary_op.Add = refl
  mark_goes_on binary_op.Sub = refl
  mark_goes_on binary_op.Mul = refl
  mark_goes_on binary_op.FloorDiv = refl
  mark_goes_on binary_op.Mod = refl

  no_sum : (s : Symbol) → continues s < 6 → op_of place.Sum (binary_at s) ≡ None
  no_sum (symbol.Mark sign.Plus) h = absurd (omega arith)
  no_sum (symbol.Mark sign.Minus) h = absurd (omega arith)
  no_sum (symbol.Mark sign.Star) h = refl
  no_sum (symbol.Mark sign.DoubleSlash) h = refl
  no_sum (symbol.Mark sign.Percent) h = refl
  no_sum _ h = refl

  no_term : (s : Symbol) → continues s < 7 → op_of place.Term (binary_at s) ≡ None
  no_term (symbol.Mark sign.Plus) h = refl
  no_term (symbol.Mark sign.Minus) h = refl
  no_term (symbol.Mark sign.Star) h = absurd (omega arith)
  no_term (symbol.Mark sign.DoubleSlash) h = absurd (omega arith)
  no_term (symbol.Mark sign.Percent) h = absurd (omega arith)
  no_term _ h = refl

  no_op : (p : Place) → has_operator p ≡ true → (s : Symbol) → continues s < number p → op_of p (binary_at s) ≡ None
  no_op place.Sum k s h = no_sum s h
  no_op place.Term k s h = no_term s h
  no_op _ k s h = cc

  module _ (p : Place) (is_op : has_operator p ≡ true) (part : Reader Tree) (part_complete : CompleteAt (suc (number p)) (suc n) part) where
    abbrev Leant : List Lexeme → Tree → List Lexeme → Type 0
    Leant ts = Reached (λ m. operations n inner p m (line_at ts)) (leaning n inner p part ts)

    part_reach : (t : Tree) (ts r : List Lexeme) → part ts ≡ Some (t, r) → Leant ts t r
    part_reach t ts r h = record { turns = length r; enough = omega arith; same = ap (λ o. and_read o (λ a r. operations n inner p (length r) (line_at ts) a r)) h }

    operation_step : (ts : List Lexeme) (a : Tree) (o : BinaryOp) (b : Tree) (mid r : List Lexeme) → Leant ts a mid → Seq (Lone (kind.mark (binary_mark o))) (Spells b) mid r → level_of_op o ≡ number p → depth a ≤ n → fine b ≡ true → fits (number (tighter p)) b ≡ true → depth b ≤ n → continues (symbol_at r) < number (tighter p) → Leant ts (binary (line_at ts) a o b) r
    operation_step ts a o b mid r x s e da w f d h = by_turns x.turns x.enough x.same
      where
        by_turns : (m : ℕ) → length mid ≤ m → leaning n inner p part ts ≡ operations n inner p m (line_at ts) a mid → Leant ts (binary (line_at ts) a o b) r
        by_turns zero q k = absurd (omega (arith, ap length s.before.same))
        by_turns (suc m) q k = record {
          turns = m;
          enough = omega (arith, ap length s.before.same, no_longer b s.between r s.behind);
          same = k
              ∙ ap (operations n inner p (suc m) (line_at ts) a) s.before.same
              ∙ ap (λ z. operated n inner p (operations n inner p m (line_at ts)) (line_at ts) a z (lexeme (kind.mark (binary_mark o)) s.before.at ∷ s.between)) (op_found p o is_op e)
              ∙ ap (λ z. when z (and_read (inner (tighter p) s.between) (λ b. operations n inner p m (line_at ts) (binary (line_at ts) a o b)))) (le-leb (depth a) n da)
              ∙ ap (λ z. and_read z (λ b. operations n inner p m (line_at ts) (binary (line_at ts) a o b))) (complete (tighter p) b s.between r s.behind w f d h);
        }

    tight_reach : (t : Tree) (ts r : List Lexeme) → Spells t ts r → fine t ≡ true → fits (suc (number p)) t ≡ true → depth t ≤ suc n → continues (symbol_at r) < suc (number p) → Leant ts t r
    tight_reach t ts r s w f d h = part_reach t ts r (part_complete t ts r s w f d h)

    other_level : (t : Tree) (ts r : List Lexeme) → (level t ≡ number p → ⊥) → Spells t ts r → fine t ≡ true → fits (number p) t ≡ true → depth t ≤ suc n → continues (symbol_at r) < suc (number p) → Leant ts t r
    other_level t ts r unlike s w f d h = by_level (split (number p) t f)
      where
        by_level : (level t ≡ number p) ⊎ (fits (suc (number p)) t ≡ true) → Leant ts t r
        by_level (inl e) = absurd (unlike e)
        by_level (inr g) = tight_reach t ts r s w g d h

    leaning_reach : (t : Tree) (ts r : List Lexeme) → Spells t ts r → fine t ≡ true → fits (number p) t ≡ true → depth t ≤ suc n → continues (symbol_at r) < suc (number p) → Leant ts t r
    leaning_reach (binary l a o b) ts r s w f d h = by_level (split (number p) (binary l a o b) f) (λ u v. leaning_reach a ts u v)
      where
        by_level : (level_of_op o ≡ number p) ⊎ (fits (suc (number p)) (binary l a o b) ≡ true) → ((u : List Lexeme) → Spells a ts u → fine a ≡ true → fits (number p) a ≡ true → depth a ≤ suc n → continues (symbol_at u) < suc (number p) → Leant ts a u) → Leant ts (binary l a o b) r
        by_level (inr g) again = tight_reach (binary l a o b) ts r s w g d h
        by_level (inl e) again =
            let x = s.span in
            let y = x.behind in
            let dv = asked (binary l a o b) _ w in
            let ws = and_right (sound (binary l a o b)) _ w in
            let fa = subst (λ z. fits z a ≡ true) e (and_left _ _ dv) in
            let fb = subst (λ z. fits z b ≡ true) (ap suc e ∙ sym (tighter_number p is_op)) (and_right (fits (level_of_op o) a) _ dv) in
            let made = operation_step ts a o b x.between r (again x.between x.before (and_left _ _ ws) fa (omega arith) (omega (arith, ap (λ z. continues (symbol_at z)) y.before.same, mark_goes_on o))) y e (omega arith) (and_right (fine a) _ ws) fb (omega arith) (omega (arith, tighter_number p is_op)) in
            subst (λ z. Leant ts (binary z a o b) r) s.start made
    leaning_reach t ts r s w f d h = other_level t ts r (λ e. absurd (let q = op_number p is_op in omega (arith, q.0, q.1))) s w f d h

    operations_stop : (m l : ℕ) (t : Tree) (r : List Lexeme) → continues (symbol_at r) < number p → operations n inner p m l t r ≡ Some (t, r)
    operations_stop zero l t r h = refl
    operations_stop (suc m) l t r h = ap (λ z. operated n inner p (operations n inner p m l) l t z r) (no_op p is_op (symbol_at r) h)

    leaning_complete : CompleteAt (number p) (suc n) (leaning n inner p part)
    leaning_complete t ts r s w f d h =
        let x = leaning_reach t ts r s w f d (omega arith) in
        x.same ∙ operations_stop x.turns (line_at ts) t r h

  -- ---- comparisons

  no_comparison : (s : Symbol) (ts : List Lexeme) → continues s < 5 → compare_by s ts ≡ None
  no_comparison (symbol.Mark sign.Equal) ts h = absurd (omega arith)
  no_comparison (symbol.Mark sign.NotEqual) ts h = absurd (omega arith)
  no_comparison (symbol.Mark sign.Less) ts h = absurd (omega arith)
  no_comparison (symbol.Mark sign.LessEqual) ts h = absurd (omega arith)
  no_comparison (symbol.Mark sign.Greater) ts h = absurd (omega arith)
  no_comparison (symbol.Mark sign.GreaterEqual) ts h = absurd (omega arith)
  no_comparison (symbol.Keyword word.In) ts h = absurd (omega arith)
  no_comparison (symbol.Keyword word.Not) ts h = absurd (omega arith)
  no_comparison (symbol.Keyword word.Is) ts h = absurd (omega arith)
  no_comparison (symbol.Mark _) ts h = refl
  no_comparison (symbol.Keyword _) ts h = refl
  no_comparison _ ts h = refl

  -- an operator is found where no `not` follows it
  record FoundOp (o : CompareOp) (ts r : List Lexeme) : Type 0 where
    there_is : compare_at ts ≡ Some o
    behind_it : behind_op o ts ≡ r

  op_complete : (o : CompareOp) (ts r : List Lexeme) → SpellsOp o ts r → at (symbol.Keyword word.Not) r ≡ false → FoundOp o ts r
  op_complete op.Equal ts r s h = record { there_is = ap compare_at s.same; behind_it = ap rest_of s.same }
  op_complete op.NotEqual ts r s h = record { there_is = ap compare_at s.same; behind_it = ap rest_of s.same }
  op_complete op.Less ts r s h = record { there_is = ap compare_at s.same; behind_it = ap rest_of s.same }
  op_complete op.LessEqual ts r s h = record { there_is = ap compare_at s.same; behind_it = ap rest_of s.same }
  op_complete op.Greater ts r s h = record { there_is = ap compare_at s.same; behind_it = ap rest_of s.same }
  op_complete op.GreaterEqual ts r s h = record { there_is = ap compare_at s.same; behind_it = ap rest_of s.same }
  op_complete op.In ts r s h = record { there_is = ap compare_at s.same; behind_it = ap rest_of s.same }
  op_complete op.NotIn ts r s h = record { there_is = ap compare_at s.before.same ∙ ap (λ z. not_in (at (symbol.Keyword word.In) z)) s.behind.same; behind_it = ap (λ z. rest_of (rest_of z)) s.before.same ∙ ap rest_of s.behind.same }
  op_complete op.Is ts r s h = record { there_is = ap compare_at s.same ∙ ap is_or_not h; behind_it = ap rest_of s.same }
  op_complete op.IsNot ts r s h = record { there_is = ap compare_at s.before.same ∙ ap (λ z. is_or_not (at (symbol.Keyword word.Not) z)) s.behind.same; behind_it = ap (λ z. rest_of (rest_of z)) s.before.same ∙ ap rest_of s.behind.same }

  op_goes_on : (o : CompareOp) (ts r : List Lexeme) → SpellsOp o ts r → continues (symbol_at ts) ≡ 5
  op_goes_on op.NotIn ts r s = ap (λ z. continues (symbol_at z)) s.before.same
  op_goes_on op.IsNot ts r s = ap (λ z. continues (symbol_at z)) s.before.same
  op_goes_on op.Equal ts r s = ap (λ z. continues (symbol_at z)) s.same
  op_goes_on op.NotEqual ts r s = ap (λ z. continues (symbol_at z)) s.same
  op_goes_on op.Less ts r s = ap (λ z. continues (symbol_at z)) s.same
  op_goes_on op.LessEqual ts r s = ap (λ z. continues (symbol_at z)) s.same
  op_goes_on op.Greater ts r s = ap (λ z. continues (symbol_at z)) s.same
  op_goes_on op.GreaterEqual ts r s = ap (λ z. continues (symbol_at z)) s.same
  op_goes_on op.In ts r s = ap (λ z. continues (symbol_at z)) s.same
  op_goes_on op.Is ts r s = ap (λ z. continues (symbol_at z)) s.same

  abbrev operand_list : Operands → List (CompareOp × Tree)
  operand_list no_operand = []
  operand_list (operand o a os) = (o, a) ∷ operand_list os

  operands_list : (os : Operands) → operands (operand_list os) ≡ os
  operands_list no_operand = refl
  operands_list (operand o a os) = ap (operand o a) (operands_list os)

  operands_stop : (os : Operands) (ts r : List Lexeme) → SpellsOperands os ts r → continues (symbol_at r) < 5 → continues (symbol_at ts) < 6
  operands_stop no_operand ts r s h = omega (arith, ap (λ z. continues (symbol_at z)) s)
  operands_stop (operand o a os) ts r s h = omega (arith, op_goes_on o ts s.between s.before)

  comparisons_complete : (a : Tree) → depth a ≤ n → (os : Operands) (m : ℕ) (done : List (CompareOp × Tree)) (ts r : List Lexeme) → SpellsOperands os ts r → fine_operands os ≡ true → fits_operands os ≡ true → identities_with_none os ≡ true → depth_operands os ≤ n → length ts ≤ m → continues (symbol_at r) < 5 → comparisons n inner a m done ts ≡ Some (done ++ operand_list os, r)
  comparisons_complete a da no_operand zero done ts r s w f i d l h = ap (λ z. Some (done, z)) s ∙ ap (λ z. Some (z, r)) (sym (append-nil done))
  comparisons_complete a da no_operand (suc m) done ts r s w f i d l h =
      ap (λ z. comparisons n inner a (suc m) done z) s
      ∙ ap (λ z. compared_by n inner a (comparisons n inner a m) done z r) (no_comparison (symbol_at r) (rest_of r) h)
      ∙ ap (λ z. Some (z, r)) (sym (append-nil done))
  comparisons_complete a da (operand o b os) zero done ts r s w f i d l h = let x = s.behind in absurd (omega (arith, op_shorter o ts s.between s.before))
  comparisons_complete a da (operand o b os) (suc m) done ts r s w f i d l h =
      let x = s.behind in
      let g = spelled_begins b s.between x.between x.before (and_left _ _ w) in
      let lv = leb-true 6 (level b) (and_left _ _ f) in
      let k = op_complete o ts s.between s.before (opens_apart (symbol.Keyword word.Not) s.between 5 (omega arith) (omega (arith, g.0))) in
      ap (λ z. compared_by n inner a (comparisons n inner a m) done z ts) k.there_is
      ∙ ap (λ z. when z (and_read (inner place.Sum (behind_op o ts)) (λ b r. when (may_compare o b) (comparisons n inner a m (done ++ (o, b) ∷ []) r)))) (le-leb (depth a) n da)
      ∙ ap (λ z. and_read (inner place.Sum z) (λ b r. when (may_compare o b) (comparisons n inner a m (done ++ (o, b) ∷ []) r))) k.behind_it
      ∙ ap (λ z. and_read z (λ b r. when (may_compare o b) (comparisons n inner a m (done ++ (o, b) ∷ []) r))) (complete place.Sum b s.between x.between x.before (and_left _ _ w) (and_left _ _ f) (omega arith) (operands_stop os x.between r x.behind h))
      ∙ ap (λ z. when z (comparisons n inner a m (done ++ (o, b) ∷ []) x.between)) (and_left _ _ i)
      ∙ comparisons_complete a da os m (done ++ (o, b) ∷ []) x.between r x.behind (and_right (fine b) _ w) (and_right (fits 6 b) _ f) (and_right (may_compare o b) _ i) (omega arith) (omega (arith, op_shorter o ts s.between s.before, no_longer b s.between x.between x.before)) h
      ∙ ap (λ z. Some (z, r)) (append_assoc done ((o, b) ∷ []) (operand_list os))

  compared_is : (l : ℕ) (a : Tree) (os : Operands) → has_items (amount_of_operands os) ≡ true → compared_tree l a (operand_list os) ≡ compare l a os
  compared_is l a no_operand h = cc
  compared_is l a (operand o b os) h = ap (λ z. compare l a (operand o b z)) (operands_list os)

  op_not_compare : (o : BinaryOp) → level_of_op o ≡ 5 → ⊥
  op_not_compare binary_op.Add e = cc
  op_not_compare binary_op.Sub e = cc
  op_not_compare binary_op.Mul e = cc
  op_not_compare binary_op.FloorDiv e = cc
  op_not_compare binary_op.Mod e = cc

  module _ (part : Reader Tree) (part_complete : CompleteAt 6 (suc n) part) where
    compare_complete : (t : Tree) (ts r : List Lexeme) → level t ≡ 5 → Spells t ts r → fine t ≡ true → depth t ≤ suc n → continues (symbol_at r) < 5 → comparing n inner part ts ≡ Some (t, r)
    compare_complete (compare l a os) ts r e s w d h =
        let x = s.span in
        let so = and_left (sound (compare l a os)) _ w in
        let dv = and_left (derived (compare l a os)) _ so in
        let d1 = and_right (fits 6 a) _ dv in
        let ws = and_right (sound (compare l a os)) _ w in
        ap (λ o. and_read o (λ a r. and_read (comparisons n inner a (length r) [] r) (λ os. give (compared_tree (line_at ts) a os)))) (part_complete a ts x.between x.before (and_left _ _ ws) (and_left _ _ dv) (omega arith) (operands_stop os x.between r x.behind h))
        ∙ ap (λ o. and_read o (λ os. give (compared_tree (line_at ts) a os))) (comparisons_complete a (omega arith) os (length x.between) [] x.between r x.behind (and_right (fine a) _ ws) (and_right (has_items (amount_of_operands os)) _ d1) (and_right (derived (compare l a os)) _ so) (omega arith) (omega arith) h)
        ∙ ap (λ z. Some (z, r)) (ap (λ z. compared_tree z a (operand_list os)) s.start ∙ compared_is l a os (and_left _ _ d1))
    compare_complete (binary l a o b) ts r e s w d h = absurd (op_not_compare o e)
    compare_complete _ ts r e s w d h = absurd (omega arith)

    comparing_complete : CompleteAt 5 (suc n) (comparing n inner part)
    comparing_complete t ts r s w f d h = by_level (split 5 t f)
      where
        none_found : (l : ℕ) → comparisons n inner t l [] r ≡ Some ([], r)
        none_found zero = refl
        none_found (suc m) = ap (λ z. compared_by n inner t (comparisons n inner t m) [] z r) (no_comparison (symbol_at r) (rest_of r) h)

        by_level : (level t ≡ 5) ⊎ (fits 6 t ≡ true) → comparing n inner part ts ≡ Some (t, r)
        by_level (inl e) = compare_complete t ts r e s w d h
        by_level (inr g) =
            ap (λ o. and_read o (λ a r. and_read (comparisons n inner a (length r) [] r) (λ os. give (compared_tree (line_at ts) a os)))) (part_complete t ts r s w g d (omega arith))
            ∙ ap (λ o. and_read o (λ os. give (compared_tree (line_at ts) t os))) (none_found (length r))

  -- ---- `not`

  op_not_negation : (o : BinaryOp) → level_of_op o ≡ 4 → ⊥
  op_not_negation binary_op.Add e = cc
  op_not_negation binary_op.Sub e = cc
  op_not_negation binary_op.Mul e = cc
  op_not_negation binary_op.FloorDiv e = cc
  op_not_negation binary_op.Mod e = cc

  module _ (part : Reader Tree) (part_complete : CompleteAt 5 (suc n) part) where
    negation_complete : (t : Tree) (ts r : List Lexeme) → level t ≡ 4 → Spells t ts r → fine t ≡ true → depth t ≤ suc n → continues (symbol_at r) < 4 → negating n inner part ts ≡ Some (t, r)
    negation_complete (negation l a) ts r e s w d h =
        ap (negating n inner part) s.before
        ∙ ap (λ o. and_read o (λ a. give (negation l a))) (complete place.Not a s.between r s.behind (and_right (sound (negation l a)) _ w) (asked (negation l a) _ w) (omega arith) h)
    negation_complete (binary l a o b) ts r e s w d h = absurd (op_not_negation o e)
    negation_complete _ ts r e s w d h = absurd (omega arith)

    negating_complete : CompleteAt 4 (suc n) (negating n inner part)
    negating_complete t ts r s w f d h = by_level (split 4 t f)
      where
        by_level : (level t ≡ 4) ⊎ (fits 5 t ≡ true) → negating n inner part ts ≡ Some (t, r)
        by_level (inl e) = negation_complete t ts r e s w d h
        by_level (inr g) =
            let b = spelled_begins t ts r s w in
            let l = leb-true 5 (level t) g in
            ap (λ z. negation_by n inner part z ts) (opens_apart (symbol.Keyword word.Not) ts 5 (omega arith) (omega (arith, b.0)))
            ∙ part_complete t ts r s w g d (omega arith)

  -- ---- `and`, `or`

  abbrev joint_word : Place → Keyword
  joint_word place.Or = word.Or
  joint_word _ = word.And

  joint_continues : (p : Place) → is_joint p ≡ true → continues (joint p) ≡ number p
  joint_continues place.Or h = refl
  joint_continues place.And h = refl
  joint_continues _ h = cc

  joint_there : (p : Place) → is_joint p ≡ true → (l : ℕ) (r : List Lexeme) → at (joint p) (lexeme (kind.keyword (joint_word p)) l ∷ r) ≡ true
  joint_there place.Or h l r = refl
  joint_there place.And h l r = refl
  joint_there _ h l r = cc

  word_continues_is : (p : Place) → is_joint p ≡ true → continues (symbol.Keyword (joint_word p)) ≡ number p
  word_continues_is place.Or h = refl
  word_continues_is place.And h = refl
  word_continues_is _ h = cc

  tighter_joint : (p : Place) → is_joint p ≡ true → number (tighter p) ≡ suc (number p)
  tighter_joint place.Or h = refl
  tighter_joint place.And h = refl
  tighter_joint _ h = cc

  behind_stop : (p : Place) → is_joint p ≡ true → (es : Trees) (ts r : List Lexeme) → SpellsBehind (joint_word p) es ts r → continues (symbol_at r) < number p → continues (symbol_at ts) < number (tighter p)
  behind_stop p j none ts r s h = omega (arith, ap (λ z. continues (symbol_at z)) s, tighter_joint p j)
  behind_stop p j (more a es) ts r s h = omega (arith, ap (λ z. continues (symbol_at z)) s.before.same, word_continues_is p j, tighter_joint p j)

  joints_complete : (p : Place) → is_joint p ≡ true → (a : Tree) → depth a ≤ n → (es : Trees) (m : ℕ) (done : List Tree) (ts r : List Lexeme) → SpellsBehind (joint_word p) es ts r → fine_each es ≡ true → fits_each (number (tighter p)) es ≡ true → depth_each es ≤ n → length ts ≤ m → continues (symbol_at r) < number p → joints n inner p a m done ts ≡ Some (done ++ list_of es, r)
  joints_complete p j a da none zero done ts r s w f d l h = ap (λ z. Some (done, z)) s ∙ ap (λ z. Some (z, r)) (sym (append-nil done))
  joints_complete p j a da none (suc m) done ts r s w f d l h =
      ap (λ z. joints n inner p a (suc m) done z) s
      ∙ ap (λ z. joint_by n inner p a (joints n inner p a m) done z r) (stops_apart (joint p) r (number p) (omega (arith, joint_continues p j)) h)
      ∙ ap (λ z. Some (z, r)) (sym (append-nil done))
  joints_complete p j a da (more b es) zero done ts r s w f d l h = absurd (omega (arith, ap length s.before.same))
  joints_complete p j a da (more b es) (suc m) done ts r s w f d l h =
      let x = s.behind in
      ap (joints n inner p a (suc m) done) s.before.same
      ∙ ap (λ z. joint_by n inner p a (joints n inner p a m) done z (lexeme (kind.keyword (joint_word p)) s.before.at ∷ s.between)) (joint_there p j s.before.at s.between)
      ∙ ap (λ z. when z (and_read (inner (tighter p) s.between) (λ b. joints n inner p a m (done ++ b ∷ [])))) (le-leb (depth a) n da)
      ∙ ap (λ z. and_read z (λ b. joints n inner p a m (done ++ b ∷ []))) (complete (tighter p) b s.between x.between x.before (and_left _ _ w) (and_left _ _ f) (omega arith) (behind_stop p j es x.between r x.behind h))
      ∙ joints_complete p j a da es m (done ++ b ∷ []) x.between r x.behind (and_right (fine b) _ w) (and_right (fits (number (tighter p)) b) _ f) (omega arith) (omega (arith, ap length s.before.same, no_longer b s.between x.between x.before)) h
      ∙ ap (λ z. Some (z, r)) (append_assoc done (b ∷ []) (list_of es))

  or_is : (l : ℕ) (a : Tree) (es : Trees) → has_items (amount_of_trees es) ≡ true → joined_tree place.Or l a (list_of es) ≡ disjunction l a es
  or_is l a none h = cc
  or_is l a (more b es) h = ap (λ z. disjunction l a (more b z)) (trees-list_of es)

  and_is : (l : ℕ) (a : Tree) (es : Trees) → has_items (amount_of_trees es) ≡ true → joined_tree place.And l a (list_of es) ≡ conjunction l a es
  and_is l a none h = cc
  and_is l a (more b es) h = ap (λ z. conjunction l a (more b z)) (trees-list_of es)

  joined_none : (p : Place) (l : ℕ) (a : Tree) → joined_tree p l a [] ≡ a
  joined_none p l a = refl

  op_not_joint : (o : BinaryOp) (k : ℕ) → level_of_op o ≡ k → k ≤ 3 → ⊥
  op_not_joint binary_op.Add k e h = absurd (omega arith)
  op_not_joint binary_op.Sub k e h = absurd (omega arith)
  op_not_joint binary_op.Mul k e h = absurd (omega arith)
  op_not_joint binary_op.FloorDiv k e h = absurd (omega arith)
  op_not_joint binary_op.Mod k e h = absurd (omega arith)

  module _ (p : Place) (j : is_joint p ≡ true) (part : Reader Tree) (part_complete : CompleteAt (number (tighter p)) (suc n) part) where
    -- a chain whose first operand is read
    chain_complete : (l : ℕ) (a : Tree) (es : Trees) (whole : Tree) (ts r : List Lexeme) → On l (Seq (Spells a) (SpellsBehind (joint_word p) es)) ts r → fine a ≡ true → fits (number (tighter p)) a ≡ true → depth a ≤ n → fine_each es ≡ true → fits_each (number (tighter p)) es ≡ true → depth_each es ≤ n → joined_tree p l a (list_of es) ≡ whole → continues (symbol_at r) < number p → joining n inner p part ts ≡ Some (whole, r)
    chain_complete l a es whole ts r s wa fa da we fe de e h =
        let x = s.span in
        ap (λ o. and_read o (λ a r. and_read (joints n inner p a (length r) [] r) (λ es. give (joined_tree p (line_at ts) a es)))) (part_complete a ts x.between x.before wa fa (omega arith) (behind_stop p j es x.between r x.behind h))
        ∙ ap (λ o. and_read o (λ es. give (joined_tree p (line_at ts) a es))) (joints_complete p j a da es (length x.between) [] x.between r x.behind we fe de (omega arith) h)
        ∙ ap (λ z. Some (z, r)) (ap (λ z. joined_tree p z a (list_of es)) s.start ∙ e)

    one_complete : (t : Tree) (ts r : List Lexeme) → Spells t ts r → fine t ≡ true → fits (number (tighter p)) t ≡ true → depth t ≤ suc n → continues (symbol_at r) < number p → joining n inner p part ts ≡ Some (t, r)
    one_complete t ts r s w f d h =
        ap (λ o. and_read o (λ a r. and_read (joints n inner p a (length r) [] r) (λ es. give (joined_tree p (line_at ts) a es)))) (part_complete t ts r s w f d (omega (arith, tighter_joint p j)))
        ∙ ap (λ o. and_read o (λ es. give (joined_tree p (line_at ts) t es))) (none_found (length r))
      where
        none_found : (m : ℕ) → joints n inner p t m [] r ≡ Some ([], r)
        none_found zero = refl
        none_found (suc m) = ap (λ z. joint_by n inner p t (joints n inner p t m) [] z r) (stops_apart (joint p) r (number p) (omega (arith, joint_continues p j)) h)

  or_complete : (part : Reader Tree) → CompleteAt 3 (suc n) part → (t : Tree) (ts r : List Lexeme) → level t ≡ 2 → Spells t ts r → fine t ≡ true → depth t ≤ suc n → continues (symbol_at r) < 2 → joining n inner place.Or part ts ≡ Some (t, r)
  or_complete part pc (disjunction l a es) ts r e s w d h =
      let dv = asked (disjunction l a es) _ w in
      let d1 = and_right (fits 3 a) _ dv in
      let ws = and_right (sound (disjunction l a es)) _ w in
      chain_complete place.Or refl part pc l a es (disjunction l a es) ts r s (and_left _ _ ws) (and_left _ _ dv) (omega arith) (and_right (fine a) _ ws) (and_right (has_items (amount_of_trees es)) _ d1) (omega arith) (or_is l a es (and_left _ _ d1)) h
  or_complete part pc (binary l a o b) ts r e s w d h = absurd (op_not_joint o 2 e (omega arith))
  or_complete part pc _ ts r e s w d h = absurd (omega arith)

  and_complete : (part : Reader Tree) → CompleteAt 4 (suc n) part → (t : Tree) (ts r : List Lexeme) → level t ≡ 3 → Spells t ts r → fine t ≡ true → depth t ≤ suc n → continues (symbol_at r) < 3 → joining n inner place.And part ts ≡ Some (t, r)
  and_complete part pc (conjunction l a es) ts r e s w d h =
      let dv = asked (conjunction l a es) _ w in
      let d1 = and_right (fits 4 a) _ dv in
      let ws = and_right (sound (conjunction l a es)) _ w in
      chain_complete place.And refl part pc l a es (conjunction l a es) ts r s (and_left _ _ ws) (and_left _ _ dv) (omega arith) (and_right (fine a) _ ws) (and_right (has_items (amount_of_trees es)) _ d1) (omega arith) (and_is l a es (and_left _ _ d1)) h
  and_complete part pc (binary l a o b) ts r e s w d h = absurd (op_not_joint o 3 e (omega arith))
  and_complete part pc _ ts r e s w d h = absurd (omega arith)

  disjoining_complete : (part : Reader Tree) → CompleteAt 3 (suc n) part → CompleteAt 2 (suc n) (joining n inner place.Or part)
  disjoining_complete part pc t ts r s w f d h = by_level (split 2 t f)
    where
      by_level : (level t ≡ 2) ⊎ (fits 3 t ≡ true) → joining n inner place.Or part ts ≡ Some (t, r)
      by_level (inl e) = or_complete part pc t ts r e s w d h
      by_level (inr g) = one_complete place.Or refl part pc t ts r s w g d h

  conjoining_complete : (part : Reader Tree) → CompleteAt 4 (suc n) part → CompleteAt 3 (suc n) (joining n inner place.And part)
  conjoining_complete part pc t ts r s w f d h = by_level (split 3 t f)
    where
      by_level : (level t ≡ 3) ⊎ (fits 4 t ≡ true) → joining n inner place.And part ts ≡ Some (t, r)
      by_level (inl e) = and_complete part pc t ts r e s w d h
      by_level (inr g) = one_complete place.And refl part pc t ts r s w g d h

  -- ---- conditionals

  module _ (part : Reader Tree) (part_complete : CompleteAt 2 (suc n) part) where
    conditional_complete : (t : Tree) (ts r : List Lexeme) → level t ≡ 1 → Spells t ts r → fine t ≡ true → depth t ≤ suc n → continues (symbol_at r) < 1 → choosing n inner part ts ≡ Some (t, r)
    conditional_complete (conditional l a t b) ts r e s w d h =
        let x = s.span in
        let y = x.behind in
        let z = y.behind in
        let u = z.behind in
        let dv = asked (conditional l a t b) _ w in
        let d1 = and_right (fits 2 a) _ dv in
        let ws = and_right (sound (conditional l a t b)) _ w in
        let w1 = and_right (fine a) _ ws in
        ap (λ o. and_read o (λ a r. test_by n inner (line_at ts) a (at (symbol.Keyword word.If) r) r)) (part_complete a ts x.between x.before (and_left _ _ ws) (and_left _ _ dv) (omega arith) (stops_lone 2 (kind.keyword word.If) x.between y.between y.before 1 refl (omega arith)))
        ∙ ap (λ q. test_by n inner (line_at ts) a (at (symbol.Keyword word.If) q) q) y.before.same
        ∙ ap (λ q. when q (and_read (inner place.Or y.between) (λ t. behind (symbol.Keyword word.Else) (other_arm n inner (line_at ts) a t)))) (le-leb (depth a) n (omega arith))
        ∙ ap (λ o. and_read o (λ t. behind (symbol.Keyword word.Else) (other_arm n inner (line_at ts) a t))) (complete place.Or t y.between z.between z.before (and_left _ _ w1) (and_left _ _ d1) (omega arith) (stops_lone 2 (kind.keyword word.Else) z.between u.between u.before 0 refl (omega arith)))
        ∙ ap (behind (symbol.Keyword word.Else) (other_arm n inner (line_at ts) a t)) u.before.same
        ∙ ap (λ o. and_read o (λ b. give (conditional (line_at ts) a t b))) (complete place.Test b u.between r u.behind (and_right (fine t) _ w1) (and_right (fits 2 t) _ d1) (omega arith) h)
        ∙ ap (λ q. Some (conditional q a t b, r)) s.start
    conditional_complete (binary l a o b) ts r e s w d h = absurd (op_not_joint o 1 e (omega arith))
    conditional_complete _ ts r e s w d h = absurd (omega arith)

    choosing_complete : CompleteAt 1 (suc n) (choosing n inner part)
    choosing_complete t ts r s w f d h = by_level (split 1 t f)
      where
        by_level : (level t ≡ 1) ⊎ (fits 2 t ≡ true) → choosing n inner part ts ≡ Some (t, r)
        by_level (inl e) = conditional_complete t ts r e s w d h
        by_level (inr g) =
            ap (λ o. and_read o (λ a r. test_by n inner (line_at ts) a (at (symbol.Keyword word.If) r) r)) (part_complete t ts r s w g d (omega arith))
            ∙ ap (λ z. test_by n inner (line_at ts) t z r) (stops_apart (symbol.Keyword word.If) r 1 (omega arith) h)

  -- ---- the productions

  term_complete : CompleteAt 7 (suc n) (a_term n inner)
  term_complete = leaning_complete place.Term refl (signed n inner) signed_complete

  sum_complete : CompleteAt 6 (suc n) (a_sum n inner)
  sum_complete = leaning_complete place.Sum refl (a_term n inner) term_complete

  comparison_complete : CompleteAt 5 (suc n) (a_comparison n inner)
  comparison_complete = comparing_complete (a_sum n inner) sum_complete

  a_negation_complete : CompleteAt 4 (suc n) (a_negation n inner)
  a_negation_complete = negating_complete (a_comparison n inner) comparison_complete

  conjunction_complete : CompleteAt 3 (suc n) (a_conjunction n inner)
  conjunction_complete = conjoining_complete (a_negation n inner) a_negation_complete

  disjunction_complete : CompleteAt 2 (suc n) (a_disjunction n inner)
  disjunction_complete = disjoining_complete (a_conjunction n inner) conjunction_complete

  a_test_complete : CompleteAt 1 (suc n) (a_test n inner)
  a_test_complete = choosing_complete (a_disjunction n inner) disjunction_complete

  pub place_complete : Complete (suc n) (at_place n inner)
  place_complete place.Test = a_test_complete
  place_complete place.Or = disjunction_complete
  place_complete place.And = conjunction_complete
  place_complete place.Not = a_negation_complete
  place_complete place.Compare = comparison_complete
  place_complete place.Sum = sum_complete
  place_complete place.Term = term_complete
  place_complete place.Unary = signed_complete
  place_complete place.Postfix = postfix_complete

depth_some : (t : Tree) → 0 < depth t
depth_some (nil l) = omega arith
depth_some (truth l b) = omega arith
depth_some (int l v) = omega arith
depth_some (text l v) = omega arith
depth_some (name l v) = omega arith
depth_some (paren l a) = omega arith
depth_some (tuple l es c) = omega arith
depth_some (bare_tuple l es c) = omega arith
depth_some (list l es c) = omega arith
depth_some (dict l ps c) = omega arith
depth_some (comprehension l a t i c) = omega arith
depth_some (call l m es c) = omega arith
depth_some (method l a m es c) = omega arith
depth_some (index l a i) = omega arith
depth_some (slice l a i j) = omega arith
depth_some (unary l o a) = omega arith
depth_some (binary l a o b) = omega arith
depth_some (compare l a os) = omega arith
depth_some (negation l a) = omega arith
depth_some (conjunction l a es) = omega arith
depth_some (disjunction l a es) = omega arith
depth_some (conditional l a t b) = omega arith

pub read_complete : (n : ℕ) → Complete n (read n)
read_complete zero p t ts r s w f d h = absurd (omega (arith, depth_some t))
read_complete (suc n) p t ts r s w f d h = place_complete n (read n) (read_complete n) p t ts r s w f d h
