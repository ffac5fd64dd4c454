-- Facts on what trees spell: how long it is, what it begins with, and lists of trees.
use Rattle.std.proofs.Common.{◌≡◌, ℕ, ◌≤◌, ◌<◌, Bool, true, false, ◌&&◌, List, [], ◌∷◌, length, None, refl, ap, ◌∙◌, arith}
use Rattle.std.proofs.lemmas.Bool.{leb-true}
use Rattle.tx_tree.specs.declared.operator.BinaryOp.{BinaryOp}
use Rattle.tx_tree.specs.declared.operator.BinaryOp.TheVariants as binary_op
use Rattle.tx_tree.specs.declared.operator.UnaryOp.{UnaryOp}
use Rattle.tx_tree.specs.declared.operator.UnaryOp.TheVariants as unary_op
use Rattle.tx_tree.specs.declared.operator.CompareOp.{CompareOp}
use Rattle.tx_tree.specs.declared.operator.CompareOp.TheVariants as op
use Rattle.tx_tree.specs.declared.symbol.Keyword.{Keyword}
use Rattle.tx_tree.specs.declared.symbol.Keyword.TheVariants as word
use Rattle.tx_tree.specs.declared.symbol.Mark.{Mark}
use Rattle.tx_tree.specs.declared.symbol.Mark.TheVariants as sign
use Rattle.tx_tree.specs.Words.{unary_mark}
use Rattle.tx_tree.specs.Spell.{truth_word}
use Rattle.tx_tree.specs.Tree.{Tree, nil, truth, int, text, name, paren, tuple, bare_tuple, list, dict, comprehension, call, method, index, slice, unary, binary, compare, negation, conjunction, disjunction, conditional, Trees, none, more, PairTrees, no_pair, pair, Operands, no_operand, operand, MaybeTree, absent, present, trees}
use Rattle.tx_parse.specs.declared.symbol.Symbol.{Symbol}
use Rattle.tx_parse.specs.declared.symbol.Symbol.TheVariants as symbol
use Rattle.tx_parse.specs.Lexemes.{Lexeme, lexeme}
use Rattle.tx_tree.specs.Form.{level, level_of_op, fits, fits_each, at_not, at_unary, at_postfix, amount, amount_of_trees, derived, sound, fine, fine_each}
use Rattle.tx_tree.specs.Depth.{depth, depth_each}
use Rattle.tx_parse.specs.Spells.{SpellsComma, SpellsMore, SpellsList, SpellsOp, Spells, SpellsItems, SpellsMoreItems, SpellsPairs, SpellsMorePairs, SpellsBehind, SpellsOperands, SpellsMaybe, SpellsCondition}
use Rattle.tx_parse.specs.Calls.Front.{symbol_at}
use Rattle.tx_parse.proofs.Options.{and_both, and_left, and_right}
use Rattle.tx_parse.proofs.Lists.{Each}
use Rattle.tx_parse.proofs.Targets.{target_shorter}

-- ---- a spelling has a lexeme or more

comma_shorter : (b : Bool) (ts r : List Lexeme) → SpellsComma b ts r → length r ≤ length ts
comma_shorter true ts r s = omega (arith, ap length s.same)
comma_shorter false ts r s = omega (arith, ap length s)

pub op_shorter : (o : CompareOp) (ts r : List Lexeme) → SpellsOp o ts r → length r < length ts
op_shorter op.NotIn ts r s = omega (arith, ap length s.before.same, ap length s.behind.same)
op_shorter op.IsNot ts r s = omega (arith, ap length s.before.same, ap length s.behind.same)
op_shorter op.Equal ts r s = omega (arith, ap length s.same)
op_shorter op.NotEqual ts r s = omega (arith, ap length s.same)
op_shorter op.Less ts r s = omega (arith, ap length s.same)
op_shorter op.LessEqual ts r s = omega (arith, ap length s.same)
op_shorter op.Greater ts r s = omega (arith, ap length s.same)
op_shorter op.GreaterEqual ts r s = omega (arith, ap length s.same)
op_shorter op.In ts r s = omega (arith, ap length s.same)
op_shorter op.Is ts r s = omega (arith, ap length s.same)

mutual
  -- no spelling grows
  pub no_longer : (t : Tree) (ts r : List Lexeme) → Spells t ts r → length r ≤ length ts
  no_longer (nil l) ts r s = omega (arith, ap length s)
  no_longer (truth l b) ts r s = omega (arith, ap length s)
  no_longer (int l v) ts r s = omega (arith, ap length s)
  no_longer (text l v) ts r s = omega (arith, ap length s)
  no_longer (name l v) ts r s = omega (arith, ap length s)
  no_longer (paren l a) ts r s = let x = s.behind in omega (arith, ap length s.before, no_longer a s.between x.between x.before, ap length x.behind.same)
  no_longer (tuple l es c) ts r s = let x = s.behind in omega (arith, ap length s.before, items_longer es c s.between x.between x.before, ap length x.behind.same)
  no_longer (list l es c) ts r s = let x = s.behind in omega (arith, ap length s.before, items_longer es c s.between x.between x.before, ap length x.behind.same)
  no_longer (dict l ps c) ts r s = let x = s.behind in omega (arith, ap length s.before, pairs_longer ps c s.between x.between x.before, ap length x.behind.same)
  no_longer (bare_tuple l es c) ts r s = items_longer es c ts r s.span
  no_longer (call l m es c) ts r s = let x = s.behind in let y = x.behind in omega (arith, ap length s.before, ap length x.before.same, items_longer es c x.between y.between y.before, ap length y.behind.same)
  no_longer (comprehension l a t i c) ts r s =
      let x = s.behind in
      let y = x.behind in
      let z = y.behind in
      let u = z.behind in
      let v = u.behind in
      let w = v.behind in
      omega (arith, ap length s.before, no_longer a s.between x.between x.before, ap length y.before.same, target_shorter t y.between z.between z.before, ap length u.before.same, no_longer i u.between v.between v.before, condition_longer c v.between w.between w.before, ap length w.behind.same)
  no_longer (method l a w es c) ts r s =
      let b = s.span in
      let x = b.behind in
      let y = x.behind in
      let z = y.behind in
      let u = z.behind in
      omega (arith, no_longer a ts b.between b.before, ap length x.before.same, ap length y.before, ap length z.before.same, items_longer es c z.between u.between u.before, ap length u.behind.same)
  no_longer (index l a i) ts r s =
      let b = s.span in
      let x = b.behind in
      let y = x.behind in
      omega (arith, no_longer a ts b.between b.before, ap length x.before.same, no_longer i x.between y.between y.before, ap length y.behind.same)
  no_longer (slice l a i j) ts r s =
      let b = s.span in
      let x = b.behind in
      let y = x.behind in
      let z = y.behind in
      let u = z.behind in
      omega (arith, no_longer a ts b.between b.before, ap length x.before.same, maybe_longer i x.between y.between y.before, ap length z.before.same, maybe_longer j z.between u.between u.before, ap length u.behind.same)
  no_longer (unary l o a) ts r s = omega (arith, ap length s.before, no_longer a s.between r s.behind)
  no_longer (negation l a) ts r s = omega (arith, ap length s.before, no_longer a s.between r s.behind)
  no_longer (binary l a o b) ts r s =
      let x = s.span in
      let y = x.behind in
      omega (arith, no_longer a ts x.between x.before, ap length y.before.same, no_longer b y.between r y.behind)
  no_longer (compare l a os) ts r s = let x = s.span in omega (arith, no_longer a ts x.between x.before, operands_longer os x.between r x.behind)
  no_longer (conjunction l a es) ts r s = let x = s.span in omega (arith, no_longer a ts x.between x.before, behind_longer word.And es x.between r x.behind)
  no_longer (disjunction l a es) ts r s = let x = s.span in omega (arith, no_longer a ts x.between x.before, behind_longer word.Or es x.between r x.behind)
  no_longer (conditional l a t b) ts r s =
      let x = s.span in
      let y = x.behind in
      let z = y.behind in
      let u = z.behind in
      omega (arith, no_longer a ts x.between x.before, ap length y.before.same, no_longer t y.between z.between z.before, ap length u.before.same, no_longer b u.between r u.behind)

  pub items_longer : (es : Trees) (c : Bool) (ts r : List Lexeme) → SpellsItems es c ts r → length r ≤ length ts
  items_longer none c ts r s = comma_shorter c ts r s
  items_longer (more a es) c ts r s = omega (arith, no_longer a ts s.between s.before, more_longer es c s.between r s.behind)

  pub more_longer : (es : Trees) (c : Bool) (ts r : List Lexeme) → SpellsMoreItems es c ts r → length r ≤ length ts
  more_longer none c ts r s = comma_shorter c ts r s
  more_longer (more a es) c ts r s = let x = s.behind in omega (arith, ap length s.before.same, no_longer a s.between x.between x.before, more_longer es c x.between r x.behind)

  pub pairs_longer : (ps : PairTrees) (c : Bool) (ts r : List Lexeme) → SpellsPairs ps c ts r → length r ≤ length ts
  pairs_longer no_pair c ts r s = comma_shorter c ts r s
  pairs_longer (pair a b ps) c ts r s =
      let p = s.before in
      let q = p.behind in
      omega (arith, no_longer a ts p.between p.before, ap length q.before.same, no_longer b q.between s.between q.behind, more_pairs_longer ps c s.between r s.behind)

  more_pairs_longer : (ps : PairTrees) (c : Bool) (ts r : List Lexeme) → SpellsMorePairs ps c ts r → length r ≤ length ts
  more_pairs_longer no_pair c ts r s = comma_shorter c ts r s
  more_pairs_longer (pair a b ps) c ts r s =
      let x = s.behind in
      let p = x.before in
      let q = p.behind in
      omega (arith, ap length s.before.same, no_longer a s.between p.between p.before, ap length q.before.same, no_longer b q.between x.between q.behind, more_pairs_longer ps c x.between r x.behind)

  pub behind_longer : (w : Keyword) (es : Trees) (ts r : List Lexeme) → SpellsBehind w es ts r → length r ≤ length ts
  behind_longer w none ts r s = omega (arith, ap length s)
  behind_longer w (more a es) ts r s = let x = s.behind in omega (arith, ap length s.before.same, no_longer a s.between x.between x.before, behind_longer w es x.between r x.behind)

  pub operands_longer : (os : Operands) (ts r : List Lexeme) → SpellsOperands os ts r → length r ≤ length ts
  operands_longer no_operand ts r s = omega (arith, ap length s)
  operands_longer (operand o a os) ts r s = let x = s.behind in omega (arith, op_shorter o ts s.between s.before, no_longer a s.between x.between x.before, operands_longer os x.between r x.behind)

  pub maybe_longer : (m : MaybeTree) (ts r : List Lexeme) → SpellsMaybe m ts r → length r ≤ length ts
  maybe_longer absent ts r s = omega (arith, ap length s)
  maybe_longer (present a) ts r s = no_longer a ts r s

  condition_longer : (m : MaybeTree) (ts r : List Lexeme) → SpellsCondition m ts r → length r ≤ length ts
  condition_longer absent ts r s = omega (arith, ap length s)
  condition_longer (present a) ts r s = omega (arith, ap length s.before.same, no_longer a s.between r s.behind)

-- ---- what a spelling begins with

-- the loosest production that begins with a symbol, by a sign or `not` of its own; 0 where none does
abbrev pub word_opens : Keyword → ℕ
word_opens word.None = at_postfix
word_opens word.True = at_postfix
word_opens word.False = at_postfix
word_opens word.Not = at_not
word_opens _ = 0

abbrev pub mark_opens : Mark → ℕ
mark_opens sign.Open = at_postfix
mark_opens sign.OpenSquare = at_postfix
mark_opens sign.OpenBrace = at_postfix
mark_opens sign.Minus = at_unary
mark_opens sign.Plus = at_unary
mark_opens _ = 0

abbrev pub opens : Symbol → ℕ
opens symbol.Name = at_postfix
opens symbol.Number = at_postfix
opens symbol.Quoted = at_postfix
opens (symbol.Keyword k) = word_opens k
opens (symbol.Mark m) = mark_opens m
opens _ = 0

abbrev pub Begins : ℕ → List Lexeme → Type 0
Begins place ts = (place ≤ opens (symbol_at ts)) × (0 < opens (symbol_at ts))

begins_by : (p : ℕ) (ts : List Lexeme) (n : ℕ) → opens (symbol_at ts) ≡ n → p ≤ n → 0 < n → Begins p ts
begins_by p ts n e l k = (omega arith, omega arith)

begins_looser : (p q : ℕ) (ts : List Lexeme) → Begins p ts → q ≤ p → Begins q ts
begins_looser p q ts b l = let x = b.0 in (omega arith, b.1)

truth_opens : (b : Bool) → word_opens (truth_word b) ≡ 9
truth_opens true = refl
truth_opens false = refl

sign_opens : (o : UnaryOp) → mark_opens (unary_mark o) ≡ 8
sign_opens unary_op.Minus = refl
sign_opens unary_op.Plus = refl

op_level : (o : BinaryOp) → level_of_op o ≤ 9
op_level binary_op.Add = omega arith
op_level binary_op.Sub = omega arith
op_level binary_op.Mul = omega arith
op_level binary_op.FloorDiv = omega arith
op_level binary_op.Mod = omega arith

fits_level : (p : ℕ) (t : Tree) → fits p t ≡ true → p ≤ level t
fits_level p t h = leb-true p (level t) h

-- a tree with parts: what is asked of it alone, and of its parts
pub asked : (t : Tree) (b : Bool) → (sound t && b) ≡ true → derived t ≡ true
asked t b w = and_left (derived t) _ (and_left (sound t) b w)

pub spelled_begins : (t : Tree) (ts r : List Lexeme) → Spells t ts r → fine t ≡ true → Begins (level t) ts
spelled_begins (nil l) ts r s w = begins_by 9 ts 9 (ap (λ z. opens (symbol_at z)) s) (omega arith) (omega arith)
spelled_begins (truth l b) ts r s w = begins_by 9 ts 9 (ap (λ z. opens (symbol_at z)) s ∙ truth_opens b) (omega arith) (omega arith)
spelled_begins (int l v) ts r s w = begins_by 9 ts 9 (ap (λ z. opens (symbol_at z)) s) (omega arith) (omega arith)
spelled_begins (text l v) ts r s w = begins_by 9 ts 9 (ap (λ z. opens (symbol_at z)) s) (omega arith) (omega arith)
spelled_begins (name l v) ts r s w = begins_by 9 ts 9 (ap (λ z. opens (symbol_at z)) s) (omega arith) (omega arith)
spelled_begins (paren l a) ts r s w = begins_by 9 ts 9 (ap (λ z. opens (symbol_at z)) s.before) (omega arith) (omega arith)
spelled_begins (tuple l es c) ts r s w = begins_by 9 ts 9 (ap (λ z. opens (symbol_at z)) s.before) (omega arith) (omega arith)
spelled_begins (list l es c) ts r s w = begins_by 9 ts 9 (ap (λ z. opens (symbol_at z)) s.before) (omega arith) (omega arith)
spelled_begins (dict l ps c) ts r s w = begins_by 9 ts 9 (ap (λ z. opens (symbol_at z)) s.before) (omega arith) (omega arith)
spelled_begins (comprehension l a t i c) ts r s w = begins_by 9 ts 9 (ap (λ z. opens (symbol_at z)) s.before) (omega arith) (omega arith)
spelled_begins (call l m es c) ts r s w = begins_by 9 ts 9 (ap (λ z. opens (symbol_at z)) s.before) (omega arith) (omega arith)
spelled_begins (unary l o a) ts r s w = begins_by 8 ts 8 (ap (λ z. opens (symbol_at z)) s.before ∙ sign_opens o) (omega arith) (omega arith)
spelled_begins (negation l a) ts r s w = begins_by 4 ts 4 (ap (λ z. opens (symbol_at z)) s.before) (omega arith) (omega arith)
spelled_begins (bare_tuple l none c) ts r s w = let d = asked (bare_tuple l none c) true w in cc
spelled_begins (bare_tuple l (more a es) c) ts r s w =
    let b = s.span in
    begins_looser (level a) 0 ts (spelled_begins a ts b.between b.before (and_left _ _ (and_right (sound (bare_tuple l (more a es) c)) _ w))) (omega arith)
spelled_begins (method l a m es c) ts r s w =
    let b = s.span in
    begins_looser (level a) 9 ts (spelled_begins a ts b.between b.before (and_left _ _ (and_right (sound (method l a m es c)) _ w))) (fits_level 9 a (and_left _ _ (asked (method l a m es c) _ w)))
spelled_begins (index l a i) ts r s w =
    let b = s.span in
    begins_looser (level a) 9 ts (spelled_begins a ts b.between b.before (and_left _ _ (and_right (sound (index l a i)) _ w))) (fits_level 9 a (and_left _ _ (asked (index l a i) _ w)))
spelled_begins (slice l a i j) ts r s w =
    let b = s.span in
    begins_looser (level a) 9 ts (spelled_begins a ts b.between b.before (and_left _ _ (and_right (sound (slice l a i j)) _ w))) (fits_level 9 a (and_left _ _ (asked (slice l a i j) _ w)))
spelled_begins (binary l a o c) ts r s w =
    let b = s.span in
    begins_looser (level a) (level_of_op o) ts (spelled_begins a ts b.between b.before (and_left _ _ (and_right (sound (binary l a o c)) _ w))) (fits_level (level_of_op o) a (and_left _ _ (asked (binary l a o c) _ w)))
spelled_begins (compare l a os) ts r s w =
    let b = s.span in
    let f = fits_level 6 a (and_left _ _ (asked (compare l a os) _ w)) in
    begins_looser (level a) 5 ts (spelled_begins a ts b.between b.before (and_left _ _ (and_right (sound (compare l a os)) _ w))) (omega arith)
spelled_begins (conjunction l a es) ts r s w =
    let b = s.span in
    let f = fits_level 4 a (and_left _ _ (asked (conjunction l a es) _ w)) in
    begins_looser (level a) 3 ts (spelled_begins a ts b.between b.before (and_left _ _ (and_right (sound (conjunction l a es)) _ w))) (omega arith)
spelled_begins (disjunction l a es) ts r s w =
    let b = s.span in
    let f = fits_level 3 a (and_left _ _ (asked (disjunction l a es) _ w)) in
    begins_looser (level a) 2 ts (spelled_begins a ts b.between b.before (and_left _ _ (and_right (sound (disjunction l a es)) _ w))) (omega arith)
spelled_begins (conditional l a t c) ts r s w =
    let b = s.span in
    let f = fits_level 2 a (and_left _ _ (asked (conditional l a t c) _ w)) in
    begins_looser (level a) 1 ts (spelled_begins a ts b.between b.before (and_left _ _ (and_right (sound (conditional l a t c)) _ w))) (omega arith)

-- a tree that the grammar has spells a lexeme or more
pub strictly : (t : Tree) (ts r : List Lexeme) → Spells t ts r → fine t ≡ true → length r < length ts
strictly (nil l) ts r s w = omega (arith, ap length s)
strictly (truth l b) ts r s w = omega (arith, ap length s)
strictly (int l v) ts r s w = omega (arith, ap length s)
strictly (text l v) ts r s w = omega (arith, ap length s)
strictly (name l v) ts r s w = omega (arith, ap length s)
strictly (paren l a) ts r s w = let x = s.behind in omega (arith, ap length s.before, no_longer a s.between x.between x.before, ap length x.behind.same)
strictly (tuple l es c) ts r s w = let x = s.behind in omega (arith, ap length s.before, items_longer es c s.between x.between x.before, ap length x.behind.same)
strictly (list l es c) ts r s w = let x = s.behind in omega (arith, ap length s.before, items_longer es c s.between x.between x.before, ap length x.behind.same)
strictly (dict l ps c) ts r s w = let x = s.behind in omega (arith, ap length s.before, pairs_longer ps c s.between x.between x.before, ap length x.behind.same)
strictly (bare_tuple l none c) ts r s w = let d = asked (bare_tuple l none c) true w in cc
strictly (bare_tuple l (more a es) c) ts r s w =
    let b = s.span in
    omega (arith, strictly a ts b.between b.before (and_left _ _ (and_right (sound (bare_tuple l (more a es) c)) _ w)), more_longer es c b.between r b.behind)
strictly (call l m es c) ts r s w = let x = s.behind in let y = x.behind in omega (arith, ap length s.before, ap length x.before.same, items_longer es c x.between y.between y.before, ap length y.behind.same)
strictly (comprehension l a t i c) ts r s w =
    let x = s.behind in
    let y = x.behind in
    let z = y.behind in
    let u = z.behind in
    let v = u.behind in
    let k = v.behind in
    omega (arith, ap length s.before, no_longer a s.between x.between x.before, ap length y.before.same, target_shorter t y.between z.between z.before, ap length u.before.same, no_longer i u.between v.between v.before, condition_longer c v.between k.between k.before, ap length k.behind.same)
strictly (method l a m es c) ts r s w =
    let b = s.span in
    let x = b.behind in
    let y = x.behind in
    let z = y.behind in
    let u = z.behind in
    omega (arith, no_longer a ts b.between b.before, ap length x.before.same, ap length y.before, ap length z.before.same, items_longer es c z.between u.between u.before, ap length u.behind.same)
strictly (index l a i) ts r s w =
    let b = s.span in
    let x = b.behind in
    let y = x.behind in
    omega (arith, no_longer a ts b.between b.before, ap length x.before.same, no_longer i x.between y.between y.before, ap length y.behind.same)
strictly (slice l a i j) ts r s w =
    let b = s.span in
    let x = b.behind in
    let y = x.behind in
    let z = y.behind in
    let u = z.behind in
    omega (arith, no_longer a ts b.between b.before, ap length x.before.same, maybe_longer i x.between y.between y.before, ap length z.before.same, maybe_longer j z.between u.between u.before, ap length u.behind.same)
strictly (unary l o a) ts r s w = omega (arith, ap length s.before, no_longer a s.between r s.behind)
strictly (negation l a) ts r s w = omega (arith, ap length s.before, no_longer a s.between r s.behind)
strictly (binary l a o b) ts r s w =
    let x = s.span in
    let y = x.behind in
    omega (arith, no_longer a ts x.between x.before, ap length y.before.same, no_longer b y.between r y.behind)
strictly (compare l a os) ts r s w = let x = s.span in omega (arith, strictly a ts x.between x.before (and_left _ _ (and_right (sound (compare l a os)) _ w)), operands_longer os x.between r x.behind)
strictly (conjunction l a es) ts r s w = let x = s.span in omega (arith, strictly a ts x.between x.before (and_left _ _ (and_right (sound (conjunction l a es)) _ w)), behind_longer word.And es x.between r x.behind)
strictly (disjunction l a es) ts r s w = let x = s.span in omega (arith, strictly a ts x.between x.before (and_left _ _ (and_right (sound (disjunction l a es)) _ w)), behind_longer word.Or es x.between r x.behind)
strictly (conditional l a t b) ts r s w =
    let x = s.span in
    let y = x.behind in
    let z = y.behind in
    let u = z.behind in
    omega (arith, no_longer a ts x.between x.before, ap length y.before.same, no_longer t y.between z.between z.before, ap length u.before.same, no_longer b u.between r u.behind)

-- ---- lists of trees

abbrev pub list_of : Trees → List Tree
list_of none = []
list_of (more a es) = a ∷ list_of es

pub trees-list_of : (es : Trees) → trees (list_of es) ≡ es
trees-list_of none = refl
trees-list_of (more a es) = ap (more a) (trees-list_of es)

pub amount-trees : (xs : List Tree) → amount_of_trees (trees xs) ≡ amount xs
amount-trees [] = refl
amount-trees (x ∷ []) = refl
amount-trees (x ∷ y ∷ xs) = refl

pub amount-list_of : (es : Trees) → amount (list_of es) ≡ amount_of_trees es
amount-list_of none = refl
amount-list_of (more a none) = refl
amount-list_of (more a (more b es)) = refl

pub more_of_list : (xs : List Tree) (c : Bool) (ts r : List Lexeme) → SpellsMore Spells xs c ts r → SpellsMoreItems (trees xs) c ts r
more_of_list [] c ts r s = s
more_of_list (x ∷ xs) c ts r s =
    let b = s.behind in
    record { between = s.between; before = s.before; behind = record { between = b.between; before = b.before; behind = more_of_list xs c b.between r b.behind } }

pub items_of_list : (xs : List Tree) (c : Bool) (ts r : List Lexeme) → SpellsList Spells xs c ts r → SpellsItems (trees xs) c ts r
items_of_list [] c ts r s = s
items_of_list (x ∷ xs) c ts r s = record { between = s.between; before = s.before; behind = more_of_list xs c s.between r s.behind }

pub list_of_more : (es : Trees) (c : Bool) (ts r : List Lexeme) → SpellsMoreItems es c ts r → SpellsMore Spells (list_of es) c ts r
list_of_more none c ts r s = s
list_of_more (more a es) c ts r s =
    let b = s.behind in
    record { between = s.between; before = s.before; behind = record { between = b.between; before = b.before; behind = list_of_more es c b.between r b.behind } }

pub list_of_items : (es : Trees) (c : Bool) (ts r : List Lexeme) → SpellsItems es c ts r → SpellsList Spells (list_of es) c ts r
list_of_items none c ts r s = s
list_of_items (more a es) c ts r s = record { between = s.between; before = s.before; behind = list_of_more es c s.between r s.behind }

pub record GoodTree (place n : ℕ) (t : Tree) : Type 0 where
  pub good : fine t ≡ true
  pub place_fits : fits place t ≡ true
  pub low : depth t ≤ n

pub fine_trees : (p n : ℕ) (xs : List Tree) → Each (GoodTree p n) xs → fine_each (trees xs) ≡ true
fine_trees p n [] g = refl
fine_trees p n (x ∷ xs) g = and_both _ _ g.0.good (fine_trees p n xs g.1)

pub fits_trees : (p n : ℕ) (xs : List Tree) → Each (GoodTree p n) xs → fits_each p (trees xs) ≡ true
fits_trees p n [] g = refl
fits_trees p n (x ∷ xs) g = and_both _ _ g.0.place_fits (fits_trees p n xs g.1)

pub depth_trees : (p n : ℕ) (xs : List Tree) → Each (GoodTree p n) xs → depth_each (trees xs) ≤ n
depth_trees p n [] g = omega arith
depth_trees p n (x ∷ xs) g = omega (arith, g.0.low, depth_trees p n xs g.1)

pub good_trees : (p n : ℕ) (es : Trees) → fine_each es ≡ true → fits_each p es ≡ true → depth_each es ≤ n → Each (GoodTree p n) (list_of es)
good_trees p n none w f d = tt
good_trees p n (more a es) w f d = (record { good = and_left _ _ w; place_fits = and_left _ _ f; low = omega arith }, good_trees p n es (and_right (fine a) _ w) (and_right (fits p a) _ f) (omega arith))
