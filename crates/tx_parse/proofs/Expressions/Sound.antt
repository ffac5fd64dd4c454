-- What the reader of expressions finds is spelled by what it has read, and has the levels that it was given.
use Rattle.std.proofs.Common.{◌≡◌, ℕ, ℤ, zero, suc, ◌≤◌, ◌<◌, ◌+◌, Bool, true, false, not, ◌&&◌, ◌||◌, nat_le, List, [], ◌∷◌, ◌++◌, length, Option, Some, None, refl, sym, ap, ◌∙◌, subst, arith, append_assoc, append-nil}
use Rattle.std.proofs.lemmas.Bool.{leb-true, le-leb}
use Rattle.tx_tree.specs.declared.operator.BinaryOp.{BinaryOp}
use Rattle.tx_tree.specs.declared.operator.BinaryOp.TheVariants as binary_op
use Rattle.tx_tree.specs.declared.operator.UnaryOp.{UnaryOp}
use Rattle.tx_tree.specs.declared.operator.UnaryOp.TheVariants as unary_op
use Rattle.tx_tree.specs.declared.operator.CompareOp.{CompareOp}
use Rattle.tx_tree.specs.declared.operator.CompareOp.TheVariants as op
use Rattle.tx_tree.specs.declared.symbol.Keyword.{Keyword}
use Rattle.tx_tree.specs.declared.symbol.Keyword.TheVariants as word
use Rattle.tx_tree.specs.declared.symbol.Mark.{Mark}
use Rattle.tx_tree.specs.declared.symbol.Mark.TheVariants as sign
use Rattle.tx_tree.specs.Words.{binary_mark, unary_mark}
use Rattle.tx_tree.specs.Kind as kind
use Rattle.tx_tree.specs.Tree.{Tree, nil, truth, int, text, name, tuple, list, dict, comprehension, call, method, index, slice, unary, binary, negation, conditional, Trees, none, more, pair, Operands, no_operand, operand, MaybeTree, absent, present, trees, pair_trees, operands}
use Rattle.tx_parse.specs.declared.symbol.Symbol.{Symbol}
use Rattle.tx_parse.specs.declared.symbol.Symbol.TheVariants as symbol
use Rattle.tx_parse.specs.declared.place.Place.{Place}
use Rattle.tx_parse.specs.declared.place.Place.TheVariants as place
use Rattle.tx_parse.specs.Lexemes.{Lexeme, line_at}
use Rattle.tx_tree.specs.Form.{level_of_op, fits, fits_each, fits_pairs, fits_operands, amount, amount_of_trees, amount_of_pairs, amount_of_operands, has_items, may_end, makes_tuple, derived, sound, fine, fine_each, fine_pairs, fine_operands, fine_maybe, fits_maybe, is_name, is_literal, identities_with_none}
use Rattle.tx_tree.specs.Depth.{depth, depth_each, depth_pairs, depth_operands, depth_maybe}
use Rattle.tx_parse.specs.Spells.{Span, Lone, Seq, one, SpellsMore, SpellsList, SpellsOp, Spells, SpellsItems, SpellsPairs, SpellsMorePairs, SpellsBehind, SpellsOperands, SpellsMaybe, SpellsCondition}
use Rattle.tx_parse.specs.Calls.Front.{symbol_at, text_at, number_at, rest_of, at, binary_at, unary_at, compare_at, compare_by, mark_compare, word_compare, not_in, is_or_not, behind_op}
use Rattle.tx_parse.specs.Calls.Reader as reader
use Rattle.tx_parse.specs.Calls.Reader.{Reader, Listed, give, and_read, when, behind, given, items, items_behind, a_word, target, tighter, joint, is_joint, has_operator, joined_tree, compared_tree, place_of_op, op_in, op_of, op_at, literal, bracketed, bracketed_by, may_compare, trails, index_of, args, name_by, condition_by, condition, conditioned, iterated, comprehended, element_by, square_by, brace, bracket_by, atom_by, atom, called, method_of, bound_by, bound, subscript_by, subscript, post, post_by, posts, postfix, unary_by, signed, operated, operations, leaning, compared_by, comparisons, comparing, negation_by, negating, joint_by, joints, joining, other_arm, test_by, choosing, a_term, a_sum, a_comparison, a_negation, a_conjunction, a_disjunction, a_test, at_place, read}
use Rattle.tx_parse.proofs.Options.{both_of, held, one_some, given_of, and_both, and_left}
use Rattle.tx_parse.proofs.Fronts.{word_front, mark_front, name_front, number_front, quoted_front, at_word, lone, lone_mark, lone_word}
use Rattle.tx_parse.proofs.Lists.{Each, FoundItem, FoundList, SoundItem, items_sound, behind_sound, whole_list}
use Rattle.tx_parse.proofs.Targets.{word_sound, target_sound}
use Rattle.tx_parse.proofs.Expressions.Places.{number, fits_looser}
use Rattle.tx_parse.proofs.Expressions.Trees.{GoodTree, fine_trees, fits_trees, depth_trees, items_of_list, amount-trees}

-- a tree of this place that these lexemes spell, ahead of the rest
pub record Found (p n : ℕ) (t : Tree) (ts r : List Lexeme) : Type 0 where
  pub spells : Spells t ts r
  pub good : fine t ≡ true
  pub place_fits : fits p t ≡ true
  pub low : depth t ≤ n

abbrev pub SoundAt : ℕ → ℕ → Reader Tree → Type 0
SoundAt p n f = (ts : List Lexeme) (t : Tree) (r : List Lexeme) → f ts ≡ Some (t, r) → Found p n t ts r

abbrev pub Sound : ℕ → (Place → Reader Tree) → Type 0
Sound n f = (p : Place) → SoundAt (number p) n (f p)

looser : (p q n : ℕ) (t : Tree) (ts r : List Lexeme) → q ≤ p → Found p n t ts r → Found q n t ts r
looser p q n t ts r l f = record { spells = f.spells; good = f.good; place_fits = fits_looser p q t f.place_fits l; low = f.low }

-- what is answered at once
pub there : {A : Type 0} (P : A → List Lexeme → Type 0) (x y : A) (s r : List Lexeme) → ◌≡◌ {A = Option (A × List Lexeme)} (Some (x, s)) (Some (y, r)) → P x s → P y r
there {A = A} P x y s r h p = let q : ◌≡◌ {A = A × List Lexeme} (x, s) (y, r) = one_some _ _ h in subst (λ (z : A × List Lexeme). P z.0 z.1) q p

-- a symbol, and an answer behind it
pub record Closed {A : Type 0} (s : Symbol) (x y : A) (ts r : List Lexeme) : Type 0 where
  pub yes : at s ts ≡ true
  pub same : x ≡ y
  pub rest : rest_of ts ≡ r

pub closed_of : {A : Type 0} (s : Symbol) (x y : A) (ts r : List Lexeme) → behind s (give x) ts ≡ Some (y, r) → Closed s x y ts r
closed_of {A = A} s x y ts r h =
    let c = held (at s ts) (Some (x, rest_of ts)) (y, r) h in
    let q : ◌≡◌ {A = A × List Lexeme} (x, rest_of ts) (y, r) = one_some _ _ c.gives in
    record { yes = c.yes; same = ap (λ (p : A × List Lexeme). p.0) q; rest = ap (λ (p : A × List Lexeme). p.1) q }

-- ---- atoms

literal_sound : (k : Keyword) (l : ℕ) (t : Tree) (ts r : List Lexeme) → literal k l ≡ Some t → one (kind.keyword k) l ts r → Found 9 1 t ts r
literal_sound word.None l t ts r h s = let e : nil l ≡ t = one_some _ _ h in subst (λ z. Found 9 1 z ts r) e (record { spells = s; good = refl; place_fits = refl; low = omega arith })
literal_sound word.True l t ts r h s = let e : truth l true ≡ t = one_some _ _ h in subst (λ z. Found 9 1 z ts r) e (record { spells = s; good = refl; place_fits = refl; low = omega arith })
literal_sound word.False l t ts r h s = let e : truth l false ≡ t = one_some _ _ h in subst (λ z. Found 9 1 z ts r) e (record { spells = s; good = refl; place_fits = refl; low = omega arith })
literal_sound _ l t ts r h s = cc

raised : (p n m : ℕ) (t : Tree) (ts r : List Lexeme) → n ≤ m → Found p n t ts r → Found p m t ts r
raised p n m t ts r l f = record { spells = f.spells; good = f.good; place_fits = f.place_fits; low = omega (arith, f.low) }

module _ (n : ℕ) (inner : Place → Reader Tree) (sound_inner : Sound n inner) where
  pub test_item : SoundItem Spells (GoodTree 1 n) (inner place.Test)
  test_item ts t r h = let f = sound_inner place.Test ts t r h in record { spells = f.spells; good = record { good = f.good; place_fits = f.place_fits; low = f.low } }

  -- trees with commas between them, and what is asked of them
  pub record FoundTrees (x : Listed Tree) (ts r : List Lexeme) : Type 0 where
    pub spells : SpellsItems (trees x.0) x.1 ts r
    pub good : fine_each (trees x.0) ≡ true
    pub place_fits : fits_each 1 (trees x.0) ≡ true
    pub low : depth_each (trees x.0) ≤ n
    pub ends : may_end (amount x.0) x.1 ≡ true

  pub trees_found : (x : Listed Tree) (ts r : List Lexeme) → FoundList Spells (GoodTree 1 n) x ts r → FoundTrees x ts r
  trees_found x ts r f = record { spells = items_of_list x.0 x.1 ts r f.spells; good = fine_trees 1 n x.0 f.good; place_fits = fits_trees 1 n x.0 f.good; low = depth_trees 1 n x.0 f.good; ends = f.ends }

  items_found : (end : Symbol) (ts : List Lexeme) (x : Listed Tree) (r : List Lexeme) → items (inner place.Test) end ts ≡ Some (x, r) → FoundTrees x ts r
  items_found end ts x r h = trees_found x ts r (items_sound Spells (GoodTree 1 n) (inner place.Test) end test_item ts x r h)

  pub behind_found : (end : Symbol) (a : Tree) (ts mid r : List Lexeme) (x : Listed Tree) → Found 1 n a ts mid → items_behind (inner place.Test) end a mid ≡ Some (x, r) → FoundTrees x ts r
  behind_found end a ts mid r x f h =
      trees_found x ts r (whole_list Spells (GoodTree 1 n) (inner place.Test) end test_item a ts mid r x (record { spells = f.spells; good = record { good = f.good; place_fits = f.place_fits; low = f.low } }) (behind_sound Spells (GoodTree 1 n) (inner place.Test) end test_item a mid x r h))

  ends_trees : (x : Listed Tree) → may_end (amount x.0) x.1 ≡ true → may_end (amount_of_trees (trees x.0)) x.1 ≡ true
  ends_trees x e = ap (λ z. may_end z x.1) (amount-trees x.0) ∙ e

  record FoundArgs (x : Listed Tree) (ts r : List Lexeme) : Type 0 where
    between : List Lexeme
    found : FoundTrees x ts between
    close : Lone (kind.mark sign.Close) between r

  args_sound : (ts : List Lexeme) (x : Listed Tree) (r : List Lexeme) → args n inner ts ≡ Some (x, r) → FoundArgs x ts r
  args_sound ts x r h =
      let y = both_of (items (inner place.Test) (symbol.Mark sign.Close) ts) (λ x. behind (symbol.Mark sign.Close) (give x)) x r h in
      let c = closed_of (symbol.Mark sign.Close) y.first_one x y.between r y.after in
      record {
        between = y.between;
        found = subst (λ z. FoundTrees z ts y.between) c.same (items_found (symbol.Mark sign.Close) ts y.first_one y.between y.before);
        close = subst (Lone (kind.mark sign.Close) y.between) c.rest (lone_mark sign.Close y.between c.yes);
      }

  name_by_sound : (ts : List Lexeme) (l : ℕ) (m : List ℕ) (b : Bool) (rest : List Lexeme) → one (kind.named m) l ts rest → is_name m ≡ true → at (symbol.Mark sign.Open) rest ≡ b → (t : Tree) (r : List Lexeme) → name_by n inner l m b rest ≡ Some (t, r) → Found 9 (suc n) t ts r
  name_by_sound ts l m false rest s w e t r h = there (λ t r. Found 9 (suc n) t ts r) (name l m) t rest r h (record { spells = s; good = and_both _ _ w refl; place_fits = refl; low = omega arith })
  name_by_sound ts l m true rest s w e t r h =
      let x = both_of (args n inner (rest_of rest)) (λ x r. Some (call l m (trees x.0) x.1, r)) t r h in
      let f = args_sound (rest_of rest) x.first_one x.between x.before in
      let g = f.found in
      there (λ t r. Found 9 (suc n) t ts r) (call l m (trees x.first_one.0) x.first_one.1) t x.between r x.after (record {
        spells = record { between = rest; before = s; behind = record { between = rest_of rest; before = lone_mark sign.Open rest e; behind = record { between = f.between; before = g.spells; behind = f.close } } };
        good = and_both _ _ (and_both _ _ (and_both _ _ (ends_trees x.first_one g.ends) g.place_fits) (and_both _ _ w refl)) g.good;
        place_fits = refl;
        low = omega (arith, g.low);
      })

  number_sound : (ts : List Lexeme) (l : ℕ) (v : ℤ) (rest : List Lexeme) → one (kind.number v) l ts rest → (t : Tree) (r : List Lexeme) → reader.number l v rest ≡ Some (t, r) → Found 9 (suc n) t ts r
  number_sound ts l v rest s t r h =
      let c = held (is_literal (int l v)) (Some (int l v, rest)) (t, r) h in
      there (λ t r. Found 9 (suc n) t ts r) (int l v) t rest r c.gives (record { spells = s; good = and_both _ _ c.yes refl; place_fits = refl; low = omega arith })

  record FoundMaybe (span : MaybeTree → Span) (p : ℕ) (m : MaybeTree) (ts r : List Lexeme) : Type 0 where
    spells : span m ts r
    good : fine_maybe m ≡ true
    place_fits : fits_maybe p m ≡ true
    low : depth_maybe m ≤ n

  condition_sound : (b : Bool) (ts : List Lexeme) → at (symbol.Keyword word.If) ts ≡ b → (m : MaybeTree) (r : List Lexeme) → condition_by n inner b ts ≡ Some (m, r) → FoundMaybe SpellsCondition 2 m ts r
  condition_sound true ts e m r h =
      let x = both_of (inner place.Or (rest_of ts)) (λ c r. Some (present c, r)) m r h in
      let f = sound_inner place.Or (rest_of ts) x.first_one x.between x.before in
      there (λ m r. FoundMaybe SpellsCondition 2 m ts r) (present x.first_one) m x.between r x.after (record { spells = record { between = rest_of ts; before = lone_word word.If ts e; behind = f.spells }; good = f.good; place_fits = f.place_fits; low = f.low })
  condition_sound false ts e m r h = there (λ m r. FoundMaybe SpellsCondition 2 m ts r) absent m ts r h (record { spells = refl; good = refl; place_fits = refl; low = omega arith })

  comprehended_sound : (whole : List Lexeme) (l : ℕ) (a : Tree) (open_behind ts : List Lexeme) → one (kind.mark sign.OpenSquare) l whole open_behind → Found 1 n a open_behind ts → at (symbol.Keyword word.For) ts ≡ true → (t : Tree) (r : List Lexeme) → comprehended n inner l a (rest_of ts) ≡ Some (t, r) → Found 9 (suc n) t whole r
  comprehended_sound whole l a open_behind ts s f e t r h =
      let x = both_of (target (symbol.Keyword word.In) (rest_of ts)) (λ t. behind (symbol.Keyword word.In) (iterated n inner l a t)) t r h in
      let g = target_sound (symbol.Keyword word.In) (rest_of ts) x.first_one x.between x.before in
      let c = held (at (symbol.Keyword word.In) x.between) (iterated n inner l a x.first_one (rest_of x.between)) (t, r) x.after in
      let y = both_of (inner place.Or (rest_of x.between)) (conditioned n inner l a x.first_one) t r c.gives in
      let i = sound_inner place.Or (rest_of x.between) y.first_one y.between y.before in
      let z = both_of (condition n inner y.between) (λ c. behind (symbol.Mark sign.CloseSquare) (give (comprehension l a x.first_one y.first_one c))) t r y.after in
      let k = condition_sound (at (symbol.Keyword word.If) y.between) y.between refl z.first_one z.between z.before in
      let d = closed_of (symbol.Mark sign.CloseSquare) (comprehension l a x.first_one y.first_one z.first_one) t z.between r z.after in
      subst (λ t. Found 9 (suc n) t whole r) d.same (record {
        spells = record { between = open_behind; before = s; behind = record { between = ts; before = f.spells; behind = record { between = rest_of ts; before = lone_word word.For ts e; behind = record { between = x.between; before = g.spells; behind = record { between = rest_of x.between; before = lone_word word.In x.between c.yes; behind = record { between = y.between; before = i.spells; behind = record { between = z.between; before = k.spells; behind = subst (Lone (kind.mark sign.CloseSquare) z.between) d.rest (lone_mark sign.CloseSquare z.between d.yes) } } } } } } };
        good = and_both _ _ (and_both _ _ (and_both _ _ f.place_fits (and_both _ _ g.derived (and_both _ _ i.place_fits k.place_fits))) (and_both _ _ g.named refl)) (and_both _ _ f.good (and_both _ _ i.good k.good));
        place_fits = refl;
        low = omega (arith, f.low, i.low, k.low);
      })

  element_sound : (whole : List Lexeme) (l : ℕ) (a : Tree) (open_behind : List Lexeme) (b : Bool) (ts : List Lexeme) → one (kind.mark sign.OpenSquare) l whole open_behind → Found 1 n a open_behind ts → at (symbol.Keyword word.For) ts ≡ b → (t : Tree) (r : List Lexeme) → element_by n inner l a b ts ≡ Some (t, r) → Found 9 (suc n) t whole r
  element_sound whole l a open_behind true ts s f e t r h = comprehended_sound whole l a open_behind ts s f e t r h
  element_sound whole l a open_behind false ts s f e t r h =
      let x = both_of (items_behind (inner place.Test) (symbol.Mark sign.CloseSquare) a ts) (λ x. behind (symbol.Mark sign.CloseSquare) (give (list l (trees x.0) x.1))) t r h in
      let g = behind_found (symbol.Mark sign.CloseSquare) a open_behind ts x.between x.first_one f x.before in
      let d = closed_of (symbol.Mark sign.CloseSquare) (list l (trees x.first_one.0) x.first_one.1) t x.between r x.after in
      subst (λ t. Found 9 (suc n) t whole r) d.same (record {
        spells = record { between = open_behind; before = s; behind = record { between = x.between; before = g.spells; behind = subst (Lone (kind.mark sign.CloseSquare) x.between) d.rest (lone_mark sign.CloseSquare x.between d.yes) } };
        good = and_both _ _ (and_both _ _ (and_both _ _ (ends_trees x.first_one g.ends) g.place_fits) refl) g.good;
        place_fits = refl;
        low = omega (arith, g.low);
      })

  square_sound : (whole : List Lexeme) (l : ℕ) (b : Bool) (ts : List Lexeme) → one (kind.mark sign.OpenSquare) l whole ts → at (symbol.Mark sign.CloseSquare) ts ≡ b → (t : Tree) (r : List Lexeme) → square_by n inner l b ts ≡ Some (t, r) → Found 9 (suc n) t whole r
  square_sound whole l true ts s e t r h =
      there (λ t r. Found 9 (suc n) t whole r) (list l none false) t (rest_of ts) r h (record { spells = record { between = ts; before = s; behind = record { between = ts; before = refl; behind = lone_mark sign.CloseSquare ts e } }; good = refl; place_fits = refl; low = omega arith })
  square_sound whole l false ts s e t r h =
      let x = both_of (inner place.Test ts) (λ a r. element_by n inner l a (at (symbol.Keyword word.For) r) r) t r h in
      element_sound whole l x.first_one ts (at (symbol.Keyword word.For) x.between) x.between s (sound_inner place.Test ts x.first_one x.between x.before) refl t r x.after

  -- pairs
  abbrev PairSpan : Tree × Tree → Span
  PairSpan p = Seq (Spells p.0) (Seq (Lone (kind.mark sign.Colon)) (Spells p.1))

  record GoodPair (p : Tree × Tree) : Type 0 where
    key : GoodTree 1 n p.0
    value : GoodTree 1 n p.1

  pair_sound : SoundItem PairSpan GoodPair (reader.pair n inner)
  pair_sound ts p r h =
      let x = both_of (inner place.Test ts) (λ a. behind (symbol.Mark sign.Colon) (λ r. and_read (inner place.Test r) (λ b. give (a, b)))) p r h in
      let f = sound_inner place.Test ts x.first_one x.between x.before in
      let c = held (at (symbol.Mark sign.Colon) x.between) (and_read (inner place.Test (rest_of x.between)) (λ b. give (x.first_one, b))) (p, r) x.after in
      let y = both_of (inner place.Test (rest_of x.between)) (λ b. give (x.first_one, b)) p r c.gives in
      let g = sound_inner place.Test (rest_of x.between) y.first_one y.between y.before in
      there (λ p r. FoundItem PairSpan GoodPair p ts r) (x.first_one, y.first_one) p y.between r y.after (record {
        spells = record { between = x.between; before = f.spells; behind = record { between = rest_of x.between; before = lone_mark sign.Colon x.between c.yes; behind = g.spells } };
        good = record { key = record { good = f.good; place_fits = f.place_fits; low = f.low }; value = record { good = g.good; place_fits = g.place_fits; low = g.low } };
      })

  more_pairs : (ps : List (Tree × Tree)) (c : Bool) (ts r : List Lexeme) → SpellsMore PairSpan ps c ts r → SpellsMorePairs (pair_trees ps) c ts r
  more_pairs [] c ts r s = s
  more_pairs (p ∷ ps) c ts r s =
      let b = s.behind in
      record { between = s.between; before = s.before; behind = record { between = b.between; before = b.before; behind = more_pairs ps c b.between r b.behind } }

  some_pairs : (ps : List (Tree × Tree)) (c : Bool) (ts r : List Lexeme) → SpellsList PairSpan ps c ts r → SpellsPairs (pair_trees ps) c ts r
  some_pairs [] c ts r s = s
  some_pairs (p ∷ ps) c ts r s = record { between = s.between; before = s.before; behind = more_pairs ps c s.between r s.behind }

  fine_pair_trees : (ps : List (Tree × Tree)) → Each GoodPair ps → fine_pairs (pair_trees ps) ≡ true
  fine_pair_trees [] g = refl
  fine_pair_trees (p ∷ ps) g = and_both _ _ g.0.key.good (and_both _ _ g.0.value.good (fine_pair_trees ps g.1))

  fits_pair_trees : (ps : List (Tree × Tree)) → Each GoodPair ps → fits_pairs (pair_trees ps) ≡ true
  fits_pair_trees [] g = refl
  fits_pair_trees (p ∷ ps) g = and_both _ _ g.0.key.place_fits (and_both _ _ g.0.value.place_fits (fits_pair_trees ps g.1))

  depth_pair_trees : (ps : List (Tree × Tree)) → Each GoodPair ps → depth_pairs (pair_trees ps) ≤ n
  depth_pair_trees [] g = omega arith
  depth_pair_trees (p ∷ ps) g = omega (arith, g.0.key.low, g.0.value.low, depth_pair_trees ps g.1)

  amount_pair_trees : (ps : List (Tree × Tree)) → amount_of_pairs (pair_trees ps) ≡ amount ps
  amount_pair_trees [] = refl
  amount_pair_trees (p ∷ []) = refl
  amount_pair_trees (p ∷ q ∷ ps) = refl

  brace_sound : (whole : List Lexeme) (l : ℕ) (ts : List Lexeme) → one (kind.mark sign.OpenBrace) l whole ts → (t : Tree) (r : List Lexeme) → brace n inner l ts ≡ Some (t, r) → Found 9 (suc n) t whole r
  brace_sound whole l ts s t r h =
      let x = both_of (items (reader.pair n inner) (symbol.Mark sign.CloseBrace) ts) (λ x. behind (symbol.Mark sign.CloseBrace) (give (dict l (pair_trees x.0) x.1))) t r h in
      let g = items_sound PairSpan GoodPair (reader.pair n inner) (symbol.Mark sign.CloseBrace) pair_sound ts x.first_one x.between x.before in
      let d = closed_of (symbol.Mark sign.CloseBrace) (dict l (pair_trees x.first_one.0) x.first_one.1) t x.between r x.after in
      subst (λ t. Found 9 (suc n) t whole r) d.same (record {
        spells = record { between = ts; before = s; behind = record { between = x.between; before = some_pairs x.first_one.0 x.first_one.1 ts x.between g.spells; behind = subst (Lone (kind.mark sign.CloseBrace) x.between) d.rest (lone_mark sign.CloseBrace x.between d.yes) } };
        good = and_both _ _ (and_both _ _ (and_both _ _ (ap (λ z. may_end z x.first_one.1) (amount_pair_trees x.first_one.0) ∙ g.ends) (fits_pair_trees x.first_one.0 g.good)) refl) (fine_pair_trees x.first_one.0 g.good);
        place_fits = refl;
        low = omega (arith, depth_pair_trees x.first_one.0 g.good);
      })

  -- round brackets
  tuple_found : (whole : List Lexeme) (l : ℕ) (ts : List Lexeme) (es : List Tree) (c : Bool) (mid r : List Lexeme) → one (kind.mark sign.Open) l whole ts → FoundTrees (es, c) ts mid → makes_tuple (amount es) c ≡ true → Lone (kind.mark sign.Close) mid r → Found 9 (suc n) (tuple l (trees es) c) whole r
  tuple_found whole l ts es c mid r s f m e = record {
    spells = record { between = ts; before = s; behind = record { between = mid; before = f.spells; behind = e } };
    good = and_both _ _ (and_both _ _ (and_both _ _ (ap (λ z. makes_tuple z c) (amount-trees es) ∙ m) f.place_fits) refl) f.good;
    place_fits = refl;
    low = omega (arith, f.low);
  }

  bracketed_found : (whole : List Lexeme) (l : ℕ) (ts : List Lexeme) (es : List Tree) (c : Bool) (mid r : List Lexeme) → one (kind.mark sign.Open) l whole ts → FoundTrees (es, c) ts mid → Lone (kind.mark sign.Close) mid r → Found 9 (suc n) (bracketed_by l es c) whole r
  bracketed_found whole l ts [] c mid r s f e = tuple_found whole l ts [] c mid r s f f.ends e
  bracketed_found whole l ts (a ∷ []) true mid r s f e = tuple_found whole l ts (a ∷ []) true mid r s f refl e
  bracketed_found whole l ts (a ∷ b ∷ es) c mid r s f e = tuple_found whole l ts (a ∷ b ∷ es) c mid r s f refl e
  bracketed_found whole l ts (a ∷ []) false mid r s f e =
      let x = f.spells in
      record {
        spells = record { between = ts; before = s; behind = record { between = mid; before = subst (Spells a ts) x.behind x.before; behind = e } };
        good = and_both (fits 1 a && true) (fine a) (and_both (fits 1 a) true (and_left (fits 1 a) true f.place_fits) refl) (and_left (fine a) true f.good);
        place_fits = refl;
        low = omega (arith, f.low);
      }

  bracket_sound : (m : Mark) (whole : List Lexeme) (l : ℕ) (ts : List Lexeme) → one (kind.mark m) l whole ts → (t : Tree) (r : List Lexeme) → bracket_by n inner m l ts ≡ Some (t, r) → Found 9 (suc n) t whole r
  bracket_sound sign.Open whole l ts s t r h =
      let x = both_of (args n inner ts) (λ x. give (bracketed l x)) t r h in
      let f = args_sound ts x.first_one x.between x.before in
      there (λ t r. Found 9 (suc n) t whole r) (bracketed l x.first_one) t x.between r x.after (bracketed_found whole l ts x.first_one.0 x.first_one.1 f.between x.between s f.found f.close)
  bracket_sound sign.OpenSquare whole l ts s t r h = square_sound whole l (at (symbol.Mark sign.CloseSquare) ts) ts s refl t r h
  bracket_sound sign.OpenBrace whole l ts s t r h = brace_sound whole l ts s t r h
  bracket_sound _ whole l ts s t r h = cc

  atom_by_sound : (s : Symbol) (ts : List Lexeme) → s ≡ symbol_at ts → (t : Tree) (r : List Lexeme) → atom_by n inner s (line_at ts) (text_at ts) (number_at ts) (rest_of ts) ≡ Some (t, r) → Found 9 (suc n) t ts r
  atom_by_sound symbol.Name ts e t r h =
      let c = held (is_name (text_at ts)) (name_by n inner (line_at ts) (text_at ts) (at (symbol.Mark sign.Open) (rest_of ts)) (rest_of ts)) (t, r) h in
      name_by_sound ts (line_at ts) (text_at ts) (at (symbol.Mark sign.Open) (rest_of ts)) (rest_of ts) (name_front ts e) c.yes refl t r c.gives
  atom_by_sound symbol.Number ts e t r h = number_sound ts (line_at ts) (number_at ts) (rest_of ts) (number_front ts e) t r h
  atom_by_sound symbol.Quoted ts e t r h = there (λ t r. Found 9 (suc n) t ts r) (text (line_at ts) (text_at ts)) t (rest_of ts) r h (record { spells = quoted_front ts e; good = refl; place_fits = refl; low = omega arith })
  atom_by_sound (symbol.Keyword k) ts e t r h =
      let g = given_of (literal k (line_at ts)) (rest_of ts) t r h in
      raised 9 1 (suc n) t ts r (omega arith) (literal_sound k (line_at ts) t ts r g.gives (subst (one (kind.keyword k) (line_at ts) ts) g.same (word_front k ts e)))
  atom_by_sound (symbol.Mark m) ts e t r h = bracket_sound m ts (line_at ts) (rest_of ts) (mark_front m ts e) t r h
  atom_by_sound _ ts e t r h = cc

  atom_sound : SoundAt 9 (suc n) (atom n inner)
  atom_sound ts t r h = atom_by_sound (symbol_at ts) ts refl t r h

  -- ---- behind an atom

  method_sound : (whole : List Lexeme) (l : ℕ) (a : Tree) (ts : List Lexeme) → line_at whole ≡ l → Found 9 (suc n) a whole ts → depth a ≤ n → at (symbol.Mark sign.Dot) ts ≡ true → (t : Tree) (r : List Lexeme) → method_of n inner l a (rest_of ts) ≡ Some (t, r) → Found 9 (suc n) t whole r
  method_sound whole l a ts start f d e t r h =
      let x = both_of (a_word (rest_of ts)) (λ w. behind (symbol.Mark sign.Open) (called n inner l a w)) t r h in
      let w = word_sound (rest_of ts) x.first_one x.between x.before in
      let c = held (at (symbol.Mark sign.Open) x.between) (called n inner l a x.first_one (rest_of x.between)) (t, r) x.after in
      let y = both_of (args n inner (rest_of x.between)) (λ x2. give (method l a x.first_one (trees x2.0) x2.1)) t r c.gives in
      let g = args_sound (rest_of x.between) y.first_one y.between y.before in
      let k = g.found in
      there (λ t r. Found 9 (suc n) t whole r) (method l a x.first_one (trees y.first_one.0) y.first_one.1) t y.between r y.after (record {
        spells = record { start = start; span = record { between = ts; before = f.spells; behind = record { between = rest_of ts; before = lone_mark sign.Dot ts e; behind = record { between = x.between; before = w.spells; behind = record { between = rest_of x.between; before = lone_mark sign.Open x.between c.yes; behind = record { between = g.between; before = k.spells; behind = g.close } } } } } };
        good = and_both _ _ (and_both _ _ (and_both _ _ f.place_fits (and_both _ _ (ends_trees y.first_one k.ends) k.place_fits)) (and_both _ _ w.good refl)) (and_both _ _ f.good k.good);
        place_fits = refl;
        low = omega (arith, d, k.low);
      })

  bound_sound : (b : Bool) (ts : List Lexeme) (m : MaybeTree) (r : List Lexeme) → bound_by n inner b ts ≡ Some (m, r) → FoundMaybe SpellsMaybe 1 m ts r
  bound_sound true ts m r h = there (λ m r. FoundMaybe SpellsMaybe 1 m ts r) absent m ts r h (record { spells = refl; good = refl; place_fits = refl; low = omega arith })
  bound_sound false ts m r h =
      let x = both_of (inner place.Test ts) (λ a. give (present a)) m r h in
      let f = sound_inner place.Test ts x.first_one x.between x.before in
      there (λ m r. FoundMaybe SpellsMaybe 1 m ts r) (present x.first_one) m x.between r x.after (record { spells = f.spells; good = f.good; place_fits = f.place_fits; low = f.low })

  index_sound : (whole : List Lexeme) (l : ℕ) (a : Tree) (ts : List Lexeme) (i : MaybeTree) (mid : List Lexeme) → line_at whole ≡ l → Found 9 (suc n) a whole ts → depth a ≤ n → at (symbol.Mark sign.OpenSquare) ts ≡ true → FoundMaybe SpellsMaybe 1 i (rest_of ts) mid → (t : Tree) (r : List Lexeme) → index_of l a i mid ≡ Some (t, r) → Found 9 (suc n) t whole r
  index_sound whole l a ts absent mid start f d e g t r h = cc
  index_sound whole l a ts (present i) mid start f d e g t r h =
      let c = closed_of (symbol.Mark sign.CloseSquare) (index l a i) t mid r h in
      subst (λ t. Found 9 (suc n) t whole r) c.same (record {
        spells = record { start = start; span = record { between = ts; before = f.spells; behind = record { between = rest_of ts; before = lone_mark sign.OpenSquare ts e; behind = record { between = mid; before = g.spells; behind = subst (Lone (kind.mark sign.CloseSquare) mid) c.rest (lone_mark sign.CloseSquare mid c.yes) } } } };
        good = and_both _ _ (and_both _ _ (and_both _ _ f.place_fits g.place_fits) refl) (and_both _ _ f.good g.good);
        place_fits = refl;
        low = omega (arith, d, g.low);
      })

  subscript_by_sound : (whole : List Lexeme) (l : ℕ) (a : Tree) (ts : List Lexeme) (i : MaybeTree) (mid : List Lexeme) (b : Bool) → line_at whole ≡ l → Found 9 (suc n) a whole ts → depth a ≤ n → at (symbol.Mark sign.OpenSquare) ts ≡ true → FoundMaybe SpellsMaybe 1 i (rest_of ts) mid → at (symbol.Mark sign.Colon) mid ≡ b → (t : Tree) (r : List Lexeme) → subscript_by n inner l a i b mid ≡ Some (t, r) → Found 9 (suc n) t whole r
  subscript_by_sound whole l a ts i mid false start f d e g k t r h = index_sound whole l a ts i mid start f d e g t r h
  subscript_by_sound whole l a ts i mid true start f d e g k t r h =
      let x = both_of (bound n inner (symbol.Mark sign.CloseSquare) (rest_of mid)) (λ j. behind (symbol.Mark sign.CloseSquare) (give (slice l a i j))) t r h in
      let j = bound_sound (at (symbol.Mark sign.CloseSquare) (rest_of mid)) (rest_of mid) x.first_one x.between x.before in
      let c = closed_of (symbol.Mark sign.CloseSquare) (slice l a i x.first_one) t x.between r x.after in
      subst (λ t. Found 9 (suc n) t whole r) c.same (record {
        spells = record { start = start; span = record { between = ts; before = f.spells; behind = record { between = rest_of ts; before = lone_mark sign.OpenSquare ts e; behind = record { between = mid; before = g.spells; behind = record { between = rest_of mid; before = lone_mark sign.Colon mid k; behind = record { between = x.between; before = j.spells; behind = subst (Lone (kind.mark sign.CloseSquare) x.between) c.rest (lone_mark sign.CloseSquare x.between c.yes) } } } } } };
        good = and_both _ _ (and_both _ _ (and_both _ _ f.place_fits (and_both _ _ g.place_fits j.place_fits)) refl) (and_both _ _ f.good (and_both _ _ g.good j.good));
        place_fits = refl;
        low = omega (arith, d, g.low, j.low);
      })

  subscript_sound : (whole : List Lexeme) (l : ℕ) (a : Tree) (ts : List Lexeme) → line_at whole ≡ l → Found 9 (suc n) a whole ts → depth a ≤ n → at (symbol.Mark sign.OpenSquare) ts ≡ true → (t : Tree) (r : List Lexeme) → subscript n inner l a (rest_of ts) ≡ Some (t, r) → Found 9 (suc n) t whole r
  subscript_sound whole l a ts start f d e t r h =
      let x = both_of (bound n inner (symbol.Mark sign.Colon) (rest_of ts)) (λ i r. subscript_by n inner l a i (at (symbol.Mark sign.Colon) r) r) t r h in
      let g = bound_sound (at (symbol.Mark sign.Colon) (rest_of ts)) (rest_of ts) x.first_one x.between x.before in
      subscript_by_sound whole l a ts x.first_one x.between (at (symbol.Mark sign.Colon) x.between) start f d e g refl t r x.after

  other_square : (b c : Bool) → b ≡ false → (b || c) ≡ true → c ≡ true
  other_square true c e h = cc
  other_square false c e h = h

  post_sound : (whole : List Lexeme) (l : ℕ) (a : Tree) (ts : List Lexeme) (dot : Bool) → line_at whole ≡ l → Found 9 (suc n) a whole ts → depth a ≤ n → trails ts ≡ true → at (symbol.Mark sign.Dot) ts ≡ dot → (t : Tree) (r : List Lexeme) → post n inner dot l a (rest_of ts) ≡ Some (t, r) → Found 9 (suc n) t whole r
  post_sound whole l a ts true start f d e k t r h = method_sound whole l a ts start f d k t r h
  post_sound whole l a ts false start f d e k t r h = subscript_sound whole l a ts start f d (other_square _ _ k e) t r h

  post_by_sound : (again : Tree → Reader Tree) (l : ℕ) (whole : List Lexeme) → line_at whole ≡ l → ((b : Tree) (ts : List Lexeme) (t : Tree) (r : List Lexeme) → Found 9 (suc n) b whole ts → again b ts ≡ Some (t, r) → Found 9 (suc n) t whole r) → (a : Tree) (ts : List Lexeme) → Found 9 (suc n) a whole ts → (b : Bool) → trails ts ≡ b → (t : Tree) (r : List Lexeme) → post_by n inner again l a b (at (symbol.Mark sign.Dot) ts) ts ≡ Some (t, r) → Found 9 (suc n) t whole r
  post_by_sound again l whole start later a ts f false e t r h = there (λ t r. Found 9 (suc n) t whole r) a t ts r h f
  post_by_sound again l whole start later a ts f true e t r h =
      let c = held (nat_le (depth a) n) (and_read (post n inner (at (symbol.Mark sign.Dot) ts) l a (rest_of ts)) again) (t, r) h in
      let x = both_of (post n inner (at (symbol.Mark sign.Dot) ts) l a (rest_of ts)) again t r c.gives in
      later x.first_one x.between t r (post_sound whole l a ts (at (symbol.Mark sign.Dot) ts) start f (leb-true (depth a) n c.yes) e refl x.first_one x.between x.before) x.after

  posts_sound : (m l : ℕ) (whole : List Lexeme) → line_at whole ≡ l → (a : Tree) (ts : List Lexeme) → Found 9 (suc n) a whole ts → (t : Tree) (r : List Lexeme) → posts n inner m l a ts ≡ Some (t, r) → Found 9 (suc n) t whole r
  posts_sound zero l whole start a ts f t r h = there (λ t r. Found 9 (suc n) t whole r) a t ts r h f
  posts_sound (suc m) l whole start a ts f t r h = post_by_sound (posts n inner m l) l whole start (λ b ts t r g h. posts_sound m l whole start b ts g t r h) a ts f (trails ts) refl t r h

  postfix_sound : SoundAt 9 (suc n) (postfix n inner)
  postfix_sound ts t r h =
      let x = both_of (atom n inner ts) (λ a r. posts n inner (length r) (line_at ts) a r) t r h in
      posts_sound (length x.between) (line_at ts) ts refl x.first_one x.between (atom_sound ts x.first_one x.between x.before) t r x.after

  -- ---- operators

  sign_front : (s : Symbol) (o : UnaryOp) → unary_at s ≡ Some o → s ≡ symbol.Mark (unary_mark o)
  sign_front (symbol.Mark sign.Minus) o h = let e : unary_op.Minus ≡ o = one_some _ _ h in ap (λ z. symbol.Mark (unary_mark z)) e
  sign_front (symbol.Mark sign.Plus) o h = let e : unary_op.Plus ≡ o = one_some _ _ h in ap (λ z. symbol.Mark (unary_mark z)) e
  sign_front _ o h = cc

  signed_by_sound : (o : Option UnaryOp) (ts : List Lexeme) → unary_at (symbol_at ts) ≡ o → (t : Tree) (r : List Lexeme) → unary_by n inner o ts ≡ Some (t, r) → Found 8 (suc n) t ts r
  signed_by_sound None ts e t r h = looser 9 8 (suc n) t ts r (omega arith) (postfix_sound ts t r h)
  signed_by_sound (Some o) ts e t r h =
      let x = both_of (inner place.Unary (rest_of ts)) (λ a. give (unary (line_at ts) o a)) t r h in
      let f = sound_inner place.Unary (rest_of ts) x.first_one x.between x.before in
      there (λ t r. Found 8 (suc n) t ts r) (unary (line_at ts) o x.first_one) t x.between r x.after (record {
        spells = record { between = rest_of ts; before = mark_front (unary_mark o) ts (sym (sign_front (symbol_at ts) o e)); behind = f.spells };
        good = and_both _ _ (and_both _ _ f.place_fits refl) f.good;
        place_fits = refl;
        low = omega (arith, f.low);
      })

  signed_sound : SoundAt 8 (suc n) (signed n inner)
  signed_sound ts t r h = signed_by_sound (unary_at (symbol_at ts)) ts refl t r h

  -- an operator that stands at this place
  record Operator (p : Place) (o : BinaryOp) (b : Option BinaryOp) : Type 0 where
    there_is : b ≡ Some o
    level_is : level_of_op o ≡ number p

  binary_front : (s : Symbol) (o : BinaryOp) → binary_at s ≡ Some o → s ≡ symbol.Mark (binary_mark o)
  binary_front (symbol.Mark sign.Plus) o h = let e : binary_op.Add ≡ o = one_some _ _ h in ap (λ z. symbol.Mark (binary_mark z)) e
  binary_front (symbol.Mark sign.Minus) o h = let e : binary_op.Sub ≡ o = one_some _ _ h in ap (λ z. symbol.Mark (binary_mark z)) e
  binary_front (symbol.Mark sign.Star) o h = let e : binary_op.Mul ≡ o = one_some _ _ h in ap (λ z. symbol.Mark (binary_mark z)) e
  binary_front (symbol.Mark sign.DoubleSlash) o h = let e : binary_op.FloorDiv ≡ o = one_some _ _ h in ap (λ z. symbol.Mark (binary_mark z)) e
  binary_front (symbol.Mark sign.Percent) o h = let e : binary_op.Mod ≡ o = one_some _ _ h in ap (λ z. symbol.Mark (binary_mark z)) e
  binary_front _ o h = cc

  in_place : (p : Place) (b o : BinaryOp) → op_in p (place_of_op b) b ≡ Some o → Operator p o (Some b)
  in_place place.Sum binary_op.Add o h = record { there_is = h; level_is = let e : binary_op.Add ≡ o = one_some _ _ h in ap level_of_op (sym e) }
  in_place place.Sum binary_op.Sub o h = record { there_is = h; level_is = let e : binary_op.Sub ≡ o = one_some _ _ h in ap level_of_op (sym e) }
  in_place place.Term binary_op.Mul o h = record { there_is = h; level_is = let e : binary_op.Mul ≡ o = one_some _ _ h in ap level_of_op (sym e) }
  in_place place.Term binary_op.FloorDiv o h = record { there_is = h; level_is = let e : binary_op.FloorDiv ≡ o = one_some _ _ h in ap level_of_op (sym e) }
  in_place place.Term binary_op.Mod o h = record { there_is = h; level_is = let e : binary_op.Mod ≡ o = one_some _ _ h in ap level_of_op (sym e) }
  in_place _ b o h = cc

  operator_of : (p : Place) (b : Option BinaryOp) (o : BinaryOp) → op_of p b ≡ Some o → Operator p o b
  operator_of p None o h = cc
  operator_of p (Some b) o h = in_place p b o h

  tighter_op : (p : Place) → has_operator p ≡ true → number (tighter p) ≡ suc (number p)
  tighter_op place.Sum h = refl
  tighter_op place.Term h = refl
  tighter_op _ h = cc

  module _ (p : Place) (is_op : has_operator p ≡ true) where
    operated_sound : (again : Tree → Reader Tree) (l : ℕ) (whole : List Lexeme) → line_at whole ≡ l → ((b : Tree) (ts : List Lexeme) (t : Tree) (r : List Lexeme) → Found (number p) (suc n) b whole ts → again b ts ≡ Some (t, r) → Found (number p) (suc n) t whole r) → (a : Tree) (ts : List Lexeme) → Found (number p) (suc n) a whole ts → (o : Option BinaryOp) → op_at p ts ≡ o → (t : Tree) (r : List Lexeme) → operated n inner p again l a o ts ≡ Some (t, r) → Found (number p) (suc n) t whole r
    operated_sound again l whole start later a ts f None e t r h = there (λ t r. Found (number p) (suc n) t whole r) a t ts r h f
    operated_sound again l whole start later a ts f (Some o) e t r h =
        let c = held (nat_le (depth a) n) (and_read (inner (tighter p) (rest_of ts)) (λ b. again (binary l a o b))) (t, r) h in
        let x = both_of (inner (tighter p) (rest_of ts)) (λ b. again (binary l a o b)) t r c.gives in
        let g = sound_inner (tighter p) (rest_of ts) x.first_one x.between x.before in
        let w = operator_of p (binary_at (symbol_at ts)) o e in
        let lv = w.level_is in
        later (binary l a o x.first_one) x.between t r (record {
          spells = record { start = start; span = record { between = ts; before = f.spells; behind = record { between = rest_of ts; before = lone (kind.mark (binary_mark o)) (line_at ts) ts (rest_of ts) (mark_front (binary_mark o) ts (sym (binary_front (symbol_at ts) o w.there_is))); behind = g.spells } } };
          good = and_both _ _ (and_both _ _ (and_both _ _ (subst (λ z. fits z a ≡ true) (sym lv) f.place_fits) (subst (λ z. fits z x.first_one ≡ true) (tighter_op p is_op ∙ ap suc (sym lv)) g.place_fits)) refl) (and_both _ _ f.good g.good);
          place_fits = le-leb (number p) (level_of_op o) (omega arith);
          low = omega (arith, leb-true (depth a) n c.yes, g.low);
        }) x.after

    operations_sound : (m l : ℕ) (whole : List Lexeme) → line_at whole ≡ l → (a : Tree) (ts : List Lexeme) → Found (number p) (suc n) a whole ts → (t : Tree) (r : List Lexeme) → operations n inner p m l a ts ≡ Some (t, r) → Found (number p) (suc n) t whole r
    operations_sound zero l whole start a ts f t r h = there (λ t r. Found (number p) (suc n) t whole r) a t ts r h f
    operations_sound (suc m) l whole start a ts f t r h = operated_sound (operations n inner p m l) l whole start (λ b ts t r g h. operations_sound m l whole start b ts g t r h) a ts f (op_at p ts) refl t r h

    leaning_sound : (part : Reader Tree) → SoundAt (suc (number p)) (suc n) part → SoundAt (number p) (suc n) (leaning n inner p part)
    leaning_sound part sound ts t r h =
        let x = both_of (part ts) (λ a r. operations n inner p (length r) (line_at ts) a r) t r h in
        operations_sound (length x.between) (line_at ts) ts refl x.first_one x.between (looser (suc (number p)) (number p) (suc n) x.first_one ts x.between (omega arith) (sound ts x.first_one x.between x.before)) t r x.after

  -- ---- comparisons

  mark_comparison : (m : Mark) (o : CompareOp) (l : ℕ) (ts r : List Lexeme) → mark_compare m ≡ Some o → one (kind.mark m) l ts r → SpellsOp o ts r × (behind_op o ts ≡ r)
  mark_comparison sign.Equal o l ts r h s = let e : op.Equal ≡ o = one_some _ _ h in subst (λ z. SpellsOp z ts r × (behind_op z ts ≡ r)) e (lone (kind.mark sign.Equal) l ts r s, ap rest_of s)
  mark_comparison sign.NotEqual o l ts r h s = let e : op.NotEqual ≡ o = one_some _ _ h in subst (λ z. SpellsOp z ts r × (behind_op z ts ≡ r)) e (lone (kind.mark sign.NotEqual) l ts r s, ap rest_of s)
  mark_comparison sign.Less o l ts r h s = let e : op.Less ≡ o = one_some _ _ h in subst (λ z. SpellsOp z ts r × (behind_op z ts ≡ r)) e (lone (kind.mark sign.Less) l ts r s, ap rest_of s)
  mark_comparison sign.LessEqual o l ts r h s = let e : op.LessEqual ≡ o = one_some _ _ h in subst (λ z. SpellsOp z ts r × (behind_op z ts ≡ r)) e (lone (kind.mark sign.LessEqual) l ts r s, ap rest_of s)
  mark_comparison sign.Greater o l ts r h s = let e : op.Greater ≡ o = one_some _ _ h in subst (λ z. SpellsOp z ts r × (behind_op z ts ≡ r)) e (lone (kind.mark sign.Greater) l ts r s, ap rest_of s)
  mark_comparison sign.GreaterEqual o l ts r h s = let e : op.GreaterEqual ≡ o = one_some _ _ h in subst (λ z. SpellsOp z ts r × (behind_op z ts ≡ r)) e (lone (kind.mark sign.GreaterEqual) l ts r s, ap rest_of s)
  mark_comparison _ o l ts r h s = cc

  not_in_spelled : (ts : List Lexeme) (b : Bool) (o : CompareOp) → one (kind.keyword word.Not) (line_at ts) ts (rest_of ts) → at (symbol.Keyword word.In) (rest_of ts) ≡ b → not_in b ≡ Some o → SpellsOp o ts (behind_op o ts)
  not_in_spelled ts false o s e h = cc
  not_in_spelled ts true o s e h =
      let q : op.NotIn ≡ o = one_some _ _ h in
      subst (λ z. SpellsOp z ts (behind_op z ts)) q (record { between = rest_of ts; before = lone (kind.keyword word.Not) (line_at ts) ts (rest_of ts) s; behind = lone_word word.In (rest_of ts) e })

  is_spelled : (ts : List Lexeme) (b : Bool) (o : CompareOp) → one (kind.keyword word.Is) (line_at ts) ts (rest_of ts) → at (symbol.Keyword word.Not) (rest_of ts) ≡ b → is_or_not b ≡ Some o → SpellsOp o ts (behind_op o ts)
  is_spelled ts false o s e h =
      let q : op.Is ≡ o = one_some _ _ h in
      subst (λ z. SpellsOp z ts (behind_op z ts)) q (lone (kind.keyword word.Is) (line_at ts) ts (rest_of ts) s)
  is_spelled ts true o s e h =
      let q : op.IsNot ≡ o = one_some _ _ h in
      subst (λ z. SpellsOp z ts (behind_op z ts)) q (record { between = rest_of ts; before = lone (kind.keyword word.Is) (line_at ts) ts (rest_of ts) s; behind = lone_word word.Not (rest_of ts) e })

  word_comparison : (k : Keyword) (ts : List Lexeme) (o : CompareOp) → one (kind.keyword k) (line_at ts) ts (rest_of ts) → word_compare k (rest_of ts) ≡ Some o → SpellsOp o ts (behind_op o ts)
  word_comparison word.In ts o s h = let q : op.In ≡ o = one_some _ _ h in subst (λ z. SpellsOp z ts (behind_op z ts)) q (lone (kind.keyword word.In) (line_at ts) ts (rest_of ts) s)
  word_comparison word.Not ts o s h = not_in_spelled ts (at (symbol.Keyword word.In) (rest_of ts)) o s refl h
  word_comparison word.Is ts o s h = is_spelled ts (at (symbol.Keyword word.Not) (rest_of ts)) o s refl h
  word_comparison _ ts o s h = cc

  comparison_by : (s : Symbol) (ts : List Lexeme) (o : CompareOp) → s ≡ symbol_at ts → compare_by s (rest_of ts) ≡ Some o → SpellsOp o ts (behind_op o ts)
  comparison_by (symbol.Mark m) ts o e h = let x = mark_comparison m o (line_at ts) ts (rest_of ts) h (mark_front m ts e) in subst (SpellsOp o ts) (sym x.1) x.0
  comparison_by (symbol.Keyword k) ts o e h = word_comparison k ts o (word_front k ts e) h
  comparison_by _ ts o e h = cc

  comparison_spelled : (ts : List Lexeme) (o : CompareOp) → compare_at ts ≡ Some o → SpellsOp o ts (behind_op o ts)
  comparison_spelled ts o h = comparison_by (symbol_at ts) ts o refl h

  -- operands behind those that are done
  record FoundOperands (done all : List (CompareOp × Tree)) (a : Tree) (ts r : List Lexeme) : Type 0 where
    others : List (CompareOp × Tree)
    same : all ≡ done ++ others
    spells : SpellsOperands (operands others) ts r
    good : fine_operands (operands others) ≡ true
    place_fits : fits_operands (operands others) ≡ true
    identities : identities_with_none (operands others) ≡ true
    low : depth_operands (operands others) ≤ n
    -- the first operand was tested where others follow
    tested : 0 < length others → depth a ≤ n

  no_operands : (done all : List (CompareOp × Tree)) (a : Tree) (ts r : List Lexeme) → ◌≡◌ {A = Option (List (CompareOp × Tree) × List Lexeme)} (Some (done, ts)) (Some (all, r)) → FoundOperands done all a ts r
  no_operands done all a ts r h = there (λ all r. FoundOperands done all a ts r) done all ts r h (record { others = []; same = sym (append-nil done); spells = refl; good = refl; place_fits = refl; identities = refl; low = omega arith; tested = λ h. absurd (omega arith) })

  compared_sound : (a : Tree) (again : List (CompareOp × Tree) → Reader (List (CompareOp × Tree))) (done : List (CompareOp × Tree)) → ((x : CompareOp × Tree) (ts : List Lexeme) (all : List (CompareOp × Tree)) (r : List Lexeme) → again (done ++ x ∷ []) ts ≡ Some (all, r) → FoundOperands (done ++ x ∷ []) all a ts r) → (o : Option CompareOp) (ts : List Lexeme) → compare_at ts ≡ o → (all : List (CompareOp × Tree)) (r : List Lexeme) → compared_by n inner a again done o ts ≡ Some (all, r) → FoundOperands done all a ts r
  compared_sound a again done later None ts e all r h = no_operands done all a ts r h
  compared_sound a again done later (Some o) ts e all r h =
      let c = held (nat_le (depth a) n) (and_read (inner place.Sum (behind_op o ts)) (λ b r. when (may_compare o b) (again (done ++ (o, b) ∷ []) r))) (all, r) h in
      let x = both_of (inner place.Sum (behind_op o ts)) (λ b r. when (may_compare o b) (again (done ++ (o, b) ∷ []) r)) all r c.gives in
      let f = sound_inner place.Sum (behind_op o ts) x.first_one x.between x.before in
      let d = held (may_compare o x.first_one) (again (done ++ (o, x.first_one) ∷ []) x.between) (all, r) x.after in
      let g = later (o, x.first_one) x.between all r d.gives in
      record {
        others = (o, x.first_one) ∷ g.others;
        same = g.same ∙ append_assoc done ((o, x.first_one) ∷ []) g.others;
        spells = record { between = behind_op o ts; before = comparison_spelled ts o e; behind = record { between = x.between; before = f.spells; behind = g.spells } };
        good = and_both _ _ f.good g.good;
        place_fits = and_both _ _ f.place_fits g.place_fits;
        identities = and_both _ _ d.yes g.identities;
        low = omega (arith, f.low, g.low);
        tested = λ h. leb-true (depth a) n c.yes;
      }

  comparisons_sound : (a : Tree) (m : ℕ) (done : List (CompareOp × Tree)) (ts : List Lexeme) (all : List (CompareOp × Tree)) (r : List Lexeme) → comparisons n inner a m done ts ≡ Some (all, r) → FoundOperands done all a ts r
  comparisons_sound a zero done ts all r h = no_operands done all a ts r h
  comparisons_sound a (suc m) done ts all r h = compared_sound a (comparisons n inner a m) done (λ x. comparisons_sound a m (done ++ x ∷ [])) (compare_at ts) ts refl all r h

  has_operands : (o : CompareOp) (a : Tree) (os : Operands) → has_items (amount_of_operands (operand o a os)) ≡ true
  has_operands o a no_operand = refl
  has_operands o a (operand p b os) = refl

  compared_found : (a : Tree) (ts mid r : List Lexeme) (os : List (CompareOp × Tree)) → Found 6 (suc n) a ts mid → SpellsOperands (operands os) mid r → fine_operands (operands os) ≡ true → fits_operands (operands os) ≡ true → identities_with_none (operands os) ≡ true → depth_operands (operands os) ≤ n → (0 < length os → depth a ≤ n) → Found 5 (suc n) (compared_tree (line_at ts) a os) ts r
  compared_found a ts mid r [] f s w p i d t = subst (Found 5 (suc n) a ts) s (looser 6 5 (suc n) a ts mid (omega arith) f)
  compared_found a ts mid r (o ∷ os) f s w p i d t =
      let low = t (omega arith) in
      record {
        spells = record { start = refl; span = record { between = mid; before = f.spells; behind = s } };
        good = and_both _ _ (and_both _ _ (and_both _ _ f.place_fits (and_both _ _ (has_operands o.0 o.1 (operands os)) p)) i) (and_both _ _ f.good w);
        place_fits = refl;
        low = omega (arith, low, d);
      }

  comparing_sound : (part : Reader Tree) → SoundAt 6 (suc n) part → SoundAt 5 (suc n) (comparing n inner part)
  comparing_sound part sound ts t r h =
      let x = both_of (part ts) (λ a r. and_read (comparisons n inner a (length r) [] r) (λ os. give (compared_tree (line_at ts) a os))) t r h in
      let y = both_of (comparisons n inner x.first_one (length x.between) [] x.between) (λ os. give (compared_tree (line_at ts) x.first_one os)) t r x.after in
      let f = sound ts x.first_one x.between x.before in
      let g = comparisons_sound x.first_one (length x.between) [] x.between y.first_one y.between y.before in
      there (λ t r. Found 5 (suc n) t ts r) (compared_tree (line_at ts) x.first_one y.first_one) t y.between r y.after (subst (λ z. Found 5 (suc n) (compared_tree (line_at ts) x.first_one z) ts y.between) (sym g.same) (compared_found x.first_one ts x.between y.between g.others f g.spells g.good g.place_fits g.identities g.low g.tested))

  -- ---- `not`

  negation_sound : (part : Reader Tree) → SoundAt 5 (suc n) part → (b : Bool) (ts : List Lexeme) → at (symbol.Keyword word.Not) ts ≡ b → (t : Tree) (r : List Lexeme) → negation_by n inner part b ts ≡ Some (t, r) → Found 4 (suc n) t ts r
  negation_sound part sound false ts e t r h = looser 5 4 (suc n) t ts r (omega arith) (sound ts t r h)
  negation_sound part sound true ts e t r h =
      let x = both_of (inner place.Not (rest_of ts)) (λ a. give (negation (line_at ts) a)) t r h in
      let f = sound_inner place.Not (rest_of ts) x.first_one x.between x.before in
      there (λ t r. Found 4 (suc n) t ts r) (negation (line_at ts) x.first_one) t x.between r x.after (record {
        spells = record { between = rest_of ts; before = at_word word.Not ts e; behind = f.spells };
        good = and_both _ _ (and_both _ _ f.place_fits refl) f.good;
        place_fits = refl;
        low = omega (arith, f.low);
      })

  negating_sound : (part : Reader Tree) → SoundAt 5 (suc n) part → SoundAt 4 (suc n) (negating n inner part)
  negating_sound part sound ts t r h = negation_sound part sound (at (symbol.Keyword word.Not) ts) ts refl t r h

  -- ---- `and`, `or`

  abbrev joint_word : Place → Keyword
  joint_word place.Or = word.Or
  joint_word _ = word.And

  joint_is : (p : Place) → joint p ≡ symbol.Keyword (joint_word p)
  joint_is place.Or = refl
  joint_is _ = refl

  -- operands behind those that are done
  record FoundJoints (p : Place) (done all : List Tree) (a : Tree) (ts r : List Lexeme) : Type 0 where
    others : List Tree
    same : all ≡ done ++ others
    spells : SpellsBehind (joint_word p) (trees others) ts r
    good : Each (GoodTree (number (tighter p)) n) others
    tested : 0 < length others → depth a ≤ n

  no_joints : (p : Place) (done all : List Tree) (a : Tree) (ts r : List Lexeme) → ◌≡◌ {A = Option (List Tree × List Lexeme)} (Some (done, ts)) (Some (all, r)) → FoundJoints p done all a ts r
  no_joints p done all a ts r h = there (λ all r. FoundJoints p done all a ts r) done all ts r h (record { others = []; same = sym (append-nil done); spells = refl; good = tt; tested = λ h. absurd (omega arith) })

  joint_sound : (p : Place) (a : Tree) (again : List Tree → Reader (List Tree)) (done : List Tree) → ((x : Tree) (ts : List Lexeme) (all : List Tree) (r : List Lexeme) → again (done ++ x ∷ []) ts ≡ Some (all, r) → FoundJoints p (done ++ x ∷ []) all a ts r) → (b : Bool) (ts : List Lexeme) → at (joint p) ts ≡ b → (all : List Tree) (r : List Lexeme) → joint_by n inner p a again done b ts ≡ Some (all, r) → FoundJoints p done all a ts r
  joint_sound p a again done later false ts e all r h = no_joints p done all a ts r h
  joint_sound p a again done later true ts e all r h =
      let c = held (nat_le (depth a) n) (and_read (inner (tighter p) (rest_of ts)) (λ b. again (done ++ b ∷ []))) (all, r) h in
      let x = both_of (inner (tighter p) (rest_of ts)) (λ b. again (done ++ b ∷ [])) all r c.gives in
      let f = sound_inner (tighter p) (rest_of ts) x.first_one x.between x.before in
      let g = later x.first_one x.between all r x.after in
      let e2 = ap (λ s. at s ts) (sym (joint_is p)) ∙ e in
      record {
        others = x.first_one ∷ g.others;
        same = g.same ∙ append_assoc done (x.first_one ∷ []) g.others;
        spells = record { between = rest_of ts; before = lone_word (joint_word p) ts e2; behind = record { between = x.between; before = f.spells; behind = g.spells } };
        good = (record { good = f.good; place_fits = f.place_fits; low = f.low }, g.good);
        tested = λ h. leb-true (depth a) n c.yes;
      }

  joints_sound : (p : Place) (a : Tree) (m : ℕ) (done : List Tree) (ts : List Lexeme) (all : List Tree) (r : List Lexeme) → joints n inner p a m done ts ≡ Some (all, r) → FoundJoints p done all a ts r
  joints_sound p a zero done ts all r h = no_joints p done all a ts r h
  joints_sound p a (suc m) done ts all r h = joint_sound p a (joints n inner p a m) done (λ x. joints_sound p a m (done ++ x ∷ [])) (at (joint p) ts) ts refl all r h

  has_trees : (a : Tree) (es : Trees) → has_items (amount_of_trees (more a es)) ≡ true
  has_trees a none = refl
  has_trees a (more b es) = refl

  joined_found : (p : Place) → is_joint p ≡ true → (a : Tree) (ts mid r : List Lexeme) (es : List Tree) → Found (number (tighter p)) (suc n) a ts mid → SpellsBehind (joint_word p) (trees es) mid r → Each (GoodTree (number (tighter p)) n) es → (0 < length es → depth a ≤ n) → Found (number p) (suc n) (joined_tree p (line_at ts) a es) ts r
  joined_found place.Or j a ts mid r [] f s g t = subst (Found 2 (suc n) a ts) s (looser 3 2 (suc n) a ts mid (omega arith) f)
  joined_found place.And j a ts mid r [] f s g t = subst (Found 3 (suc n) a ts) s (looser 4 3 (suc n) a ts mid (omega arith) f)
  joined_found place.Or j a ts mid r (b ∷ es) f s g t =
      let low = t (omega arith) in
      record {
        spells = record { start = refl; span = record { between = mid; before = f.spells; behind = s } };
        good = and_both _ _ (and_both _ _ (and_both _ _ f.place_fits (and_both _ _ (has_trees b (trees es)) (fits_trees 3 n (b ∷ es) g))) refl) (and_both _ _ f.good (fine_trees 3 n (b ∷ es) g));
        place_fits = refl;
        low = omega (arith, low, depth_trees 3 n (b ∷ es) g);
      }
  joined_found place.And j a ts mid r (b ∷ es) f s g t =
      let low = t (omega arith) in
      record {
        spells = record { start = refl; span = record { between = mid; before = f.spells; behind = s } };
        good = and_both _ _ (and_both _ _ (and_both _ _ f.place_fits (and_both _ _ (has_trees b (trees es)) (fits_trees 4 n (b ∷ es) g))) refl) (and_both _ _ f.good (fine_trees 4 n (b ∷ es) g));
        place_fits = refl;
        low = omega (arith, low, depth_trees 4 n (b ∷ es) g);
      }
  joined_found _ j a ts mid r es f s g t = cc

  joining_sound : (p : Place) → is_joint p ≡ true → (part : Reader Tree) → SoundAt (number (tighter p)) (suc n) part → SoundAt (number p) (suc n) (joining n inner p part)
  joining_sound p j part sound ts t r h =
      let x = both_of (part ts) (λ a r. and_read (joints n inner p a (length r) [] r) (λ es. give (joined_tree p (line_at ts) a es))) t r h in
      let y = both_of (joints n inner p x.first_one (length x.between) [] x.between) (λ es. give (joined_tree p (line_at ts) x.first_one es)) t r x.after in
      let f = sound ts x.first_one x.between x.before in
      let g = joints_sound p x.first_one (length x.between) [] x.between y.first_one y.between y.before in
      there (λ t r. Found (number p) (suc n) t ts r) (joined_tree p (line_at ts) x.first_one y.first_one) t y.between r y.after (subst (λ z. Found (number p) (suc n) (joined_tree p (line_at ts) x.first_one z) ts y.between) (sym g.same) (joined_found p j x.first_one ts x.between y.between g.others f g.spells g.good g.tested))

  -- ---- conditionals

  test_sound : (ts : List Lexeme) (a : Tree) (mid : List Lexeme) → Found 2 (suc n) a ts mid → (b : Bool) → at (symbol.Keyword word.If) mid ≡ b → (t : Tree) (r : List Lexeme) → test_by n inner (line_at ts) a b mid ≡ Some (t, r) → Found 1 (suc n) t ts r
  test_sound ts a mid f false e t r h = there (λ t r. Found 1 (suc n) t ts r) a t mid r h (looser 2 1 (suc n) a ts mid (omega arith) f)
  test_sound ts a mid f true e t r h =
      let c = held (nat_le (depth a) n) (and_read (inner place.Or (rest_of mid)) (λ t. behind (symbol.Keyword word.Else) (other_arm n inner (line_at ts) a t))) (t, r) h in
      let x = both_of (inner place.Or (rest_of mid)) (λ t. behind (symbol.Keyword word.Else) (other_arm n inner (line_at ts) a t)) t r c.gives in
      let g = sound_inner place.Or (rest_of mid) x.first_one x.between x.before in
      let d = held (at (symbol.Keyword word.Else) x.between) (other_arm n inner (line_at ts) a x.first_one (rest_of x.between)) (t, r) x.after in
      let y = both_of (inner place.Test (rest_of x.between)) (λ b. give (conditional (line_at ts) a x.first_one b)) t r d.gives in
      let k = sound_inner place.Test (rest_of x.between) y.first_one y.between y.before in
      there (λ t r. Found 1 (suc n) t ts r) (conditional (line_at ts) a x.first_one y.first_one) t y.between r y.after (record {
        spells = record { start = refl; span = record { between = mid; before = f.spells; behind = record { between = rest_of mid; before = lone_word word.If mid e; behind = record { between = x.between; before = g.spells; behind = record { between = rest_of x.between; before = lone_word word.Else x.between d.yes; behind = k.spells } } } } };
        good = and_both _ _ (and_both _ _ (and_both _ _ f.place_fits (and_both _ _ g.place_fits k.place_fits)) refl) (and_both _ _ f.good (and_both _ _ g.good k.good));
        place_fits = refl;
        low = omega (arith, leb-true (depth a) n c.yes, g.low, k.low);
      })

  choosing_sound : (part : Reader Tree) → SoundAt 2 (suc n) part → SoundAt 1 (suc n) (choosing n inner part)
  choosing_sound part sound ts t r h =
      let x = both_of (part ts) (λ a r. test_by n inner (line_at ts) a (at (symbol.Keyword word.If) r) r) t r h in
      test_sound ts x.first_one x.between (sound ts x.first_one x.between x.before) (at (symbol.Keyword word.If) x.between) refl t r x.after

  -- ---- the productions

  term_sound : SoundAt 7 (suc n) (a_term n inner)
  term_sound = leaning_sound place.Term refl (signed n inner) signed_sound

  sum_sound : SoundAt 6 (suc n) (a_sum n inner)
  sum_sound = leaning_sound place.Sum refl (a_term n inner) term_sound

  comparison_sound : SoundAt 5 (suc n) (a_comparison n inner)
  comparison_sound = comparing_sound (a_sum n inner) sum_sound

  a_negation_sound : SoundAt 4 (suc n) (a_negation n inner)
  a_negation_sound = negating_sound (a_comparison n inner) comparison_sound

  conjunction_sound : SoundAt 3 (suc n) (a_conjunction n inner)
  conjunction_sound = joining_sound place.And refl (a_negation n inner) a_negation_sound

  disjunction_sound : SoundAt 2 (suc n) (a_disjunction n inner)
  disjunction_sound = joining_sound place.Or refl (a_conjunction n inner) conjunction_sound

  a_test_sound : SoundAt 1 (suc n) (a_test n inner)
  a_test_sound = choosing_sound (a_disjunction n inner) disjunction_sound

  pub place_sound : Sound (suc n) (at_place n inner)
  place_sound place.Test = a_test_sound
  place_sound place.Or = disjunction_sound
  place_sound place.And = conjunction_sound
  place_sound place.Not = a_negation_sound
  place_sound place.Compare = comparison_sound
  place_sound place.Sum = sum_sound
  place_sound place.Term = term_sound
  place_sound place.Unary = signed_sound
  place_sound place.Postfix = postfix_sound

pub read_sound : (n : ℕ) → Sound n (read n)
read_sound zero p ts t r h = cc
read_sound (suc n) p ts t r h = place_sound n (read n) (read_sound n) p ts t r h
