-- One more turn of a loop that counts up to an end, and one more level.
use Rattle.std.proofs.Common.{◌≡◌, ℕ, zero, suc, ◌+◌, ◌-◌, ◌<◌, max, List, [], ◌∷◌, ◌++◌, length, Option, Some, ap, sym, ◌∙◌, arith}
use Rattle.std.proofs.lemmas.List.{map-append}
use Rattle.tx_tree.specs.declared.operator.CompareOp.{CompareOp}
use Rattle.tx_tree.specs.declared.symbol.Mark.TheVariants as sign
use Rattle.tx_tree.specs.Tree.{Tree, trees, pair_trees, operands}
use Rattle.tx_tree.specs.Depth.{depth, depth_each, depth_pairs, depth_operands}
use Rattle.tx_parse.specs.declared.symbol.Symbol.{Symbol}
use Rattle.tx_parse.specs.declared.symbol.Symbol.TheVariants as symbol
use Rattle.tx_parse.specs.declared.place.Place.{Place}
use Rattle.tx_parse.specs.Lexemes.{Lexeme}
use Rattle.tx_parse.specs.Calls.Front.{at, compare_at}
use Rattle.tx_parse.specs.Calls.Reader.{Reader, and_read, item_by, more_items, items_behind, trails, post_by, posts, operated, operations, op_at, compared_by, comparisons, joint, joint_by, joints, at_place, read}

pub one_fewer : (m t : ℕ) → t < m → m - t ≡ suc (m - (t + 1))
one_fewer m t h = omega arith

pub items_turn : {A : Type 0} (item : Reader A) (end : Symbol) (m t : ℕ) (done : List A) (ts : List Lexeme) → t < m → more_items item end (m - t) done ts ≡ item_by item end (more_items item end (m - (t + 1))) done (at (symbol.Mark sign.Comma) ts) ts
items_turn item end m t done ts h = ap (λ x. more_items item end x done ts) (one_fewer m t h)

-- behind the first item, which was read
pub items_start : {A : Type 0} (item : Reader A) (end : Symbol) (o : Option (A × List Lexeme)) (x : A) (r : List Lexeme) (m : ℕ) (done : List A) → o ≡ Some (x, r) → done ≡ x ∷ [] → m ≡ length r → more_items item end (m - 0) done r ≡ and_read o (items_behind item end)
items_start item end o x r m done e d l =
    let none_read : m - 0 ≡ length r = omega (arith, l) in
    ap (λ k. more_items item end k done r) none_read ∙ ap (λ ds. more_items item end (length r) ds r) d ∙ sym (ap (λ z. and_read z (items_behind item end)) e)

pub posts_turn : (n : ℕ) (inner : Place → Reader Tree) (m t l : ℕ) (a : Tree) (ts : List Lexeme) → t < m → posts n inner (m - t) l a ts ≡ post_by n inner (posts n inner (m - (t + 1)) l) l a (trails ts) (at (symbol.Mark sign.Dot) ts) ts
posts_turn n inner m t l a ts h = ap (λ x. posts n inner x l a ts) (one_fewer m t h)

pub operations_turn : (n : ℕ) (inner : Place → Reader Tree) (p : Place) (m t l : ℕ) (a : Tree) (ts : List Lexeme) → t < m → operations n inner p (m - t) l a ts ≡ operated n inner p (operations n inner p (m - (t + 1)) l) l a (op_at p ts) ts
operations_turn n inner p m t l a ts h = ap (λ x. operations n inner p x l a ts) (one_fewer m t h)

pub comparisons_turn : (n : ℕ) (inner : Place → Reader Tree) (a : Tree) (m t : ℕ) (done : List (CompareOp × Tree)) (ts : List Lexeme) → t < m → comparisons n inner a (m - t) done ts ≡ compared_by n inner a (comparisons n inner a (m - (t + 1))) done (compare_at ts) ts
comparisons_turn n inner a m t done ts h = ap (λ x. comparisons n inner a x done ts) (one_fewer m t h)

pub joints_turn : (n : ℕ) (inner : Place → Reader Tree) (p : Place) (a : Tree) (m t : ℕ) (done : List Tree) (ts : List Lexeme) → t < m → joints n inner p a (m - t) done ts ≡ joint_by n inner p a (joints n inner p a (m - (t + 1))) done (at (joint p) ts) ts
joints_turn n inner p a m t done ts h = ap (λ x. joints n inner p a x done ts) (one_fewer m t h)

pub read_more : (n : ℕ) (p : Place) (ts : List Lexeme) → 0 < n → read n p ts ≡ at_place (n - 1) (read (n - 1)) p ts
read_more zero p ts h = absurd (omega arith)
read_more (suc n) p ts h = let e : n ≡ suc n - 1 = omega arith in ap (λ m. at_place m (read m) p ts) e

-- ---- depths of lists

pub depth_each-append : (xs : List Tree) (x : Tree) → depth_each (trees (xs ++ x ∷ [])) ≡ max (depth_each (trees xs)) (depth x)
depth_each-append [] x = omega arith
depth_each-append (y ∷ xs) x = omega (arith, depth_each-append xs x)

pub depth_pairs-append : (xs : List (Tree × Tree)) (x : Tree × Tree) → depth_pairs (pair_trees (xs ++ x ∷ [])) ≡ max (depth_pairs (pair_trees xs)) (max (depth x.0) (depth x.1))
depth_pairs-append [] x = omega arith
depth_pairs-append (y ∷ xs) x = omega (arith, depth_pairs-append xs x)

pub depth_operands-append : (xs : List (CompareOp × Tree)) (x : CompareOp × Tree) → depth_operands (operands (xs ++ x ∷ [])) ≡ max (depth_operands (operands xs)) (depth x.1)
depth_operands-append [] x = omega arith
depth_operands-append (y ∷ xs) x = omega (arith, depth_operands-append xs x)

pub ruleset turns = (items_turn, posts_turn, operations_turn, comparisons_turn, joints_turn, read_more, depth_each-append, depth_pairs-append, depth_operands-append, map-append)
