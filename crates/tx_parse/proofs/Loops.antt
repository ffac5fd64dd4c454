-- One turn of each loop of the reader, as its code takes it: it goes on, or no tree is found.
use Rattle.std.proofs.Common.{◌≡◌, ℕ, ◌+◌, ◌-◌, ◌<◌, ◌≤◌, max, nat_le, Bool, true, false, List, [], ◌∷◌, ◌++◌, Option, Some, None, refl, sym, ap, ◌∙◌, arith}
use Rattle.std.proofs.lemmas.Bool.{leb-true, le-leb}
use Rattle.tx_tree.specs.declared.operator.BinaryOp.{BinaryOp}
use Rattle.tx_tree.specs.declared.operator.CompareOp.{CompareOp}
use Rattle.tx_tree.specs.declared.symbol.Mark.TheVariants as sign
use Rattle.tx_tree.specs.Tree.{Tree, binary, trees, operands}
use Rattle.tx_tree.specs.Depth.{depth, depth_each, depth_operands}
use Rattle.tx_parse.specs.declared.symbol.Symbol.TheVariants as symbol
use Rattle.tx_parse.specs.declared.place.Place.{Place}
use Rattle.tx_parse.specs.declared.place.Place.TheVariants as place
use Rattle.tx_parse.specs.Lexemes.{Lexeme}
use Rattle.tx_parse.specs.Calls.Front.{at, rest_of, compare_at, behind_op}
use Rattle.tx_parse.specs.Calls.Reader.{Reader, and_read, when, trails, post, post_by, posts, operated, operations, op_at, may_compare, compared_by, comparisons, joint, joint_by, joints, tighter}
use Rattle.tx_parse.proofs.Turns.{posts_turn, operations_turn, comparisons_turn, joints_turn, depth_each-append, depth_operands-append}

too_deep : (a n : ℕ) → n < a → nat_le a n ≡ false
too_deep a n h = by_test (nat_le a n) refl
  where
    by_test : (b : Bool) → nat_le a n ≡ b → nat_le a n ≡ false
    by_test true e = absurd (omega (arith, leb-true a n e))
    by_test false e = e

module _ (n : ℕ) (inner : Place → Reader Tree) where
  module _ (p : Place) (m t l : ℕ) (a : Tree) (ts : List Lexeme) (o : BinaryOp) (h : t < m) (e : op_at p ts ≡ Some o) where
    operator_read : operations n inner p (m - t) l a ts ≡ when (nat_le (depth a) n) (and_read (inner (tighter p) (rest_of ts)) (λ b. operations n inner p (m - (t + 1)) l (binary l a o b)))
    operator_read = operations_turn n inner p m t l a ts h ∙ ap (λ x. operated n inner p (operations n inner p (m - (t + 1)) l) l a x ts) e

    pub operations_deep : n < depth a → operations n inner p (m - t) l a ts ≡ None
    operations_deep d = operator_read ∙ ap (λ z. when z (and_read (inner (tighter p) (rest_of ts)) (λ b. operations n inner p (m - (t + 1)) l (binary l a o b)))) (too_deep (depth a) n d)

    pub operations_step : (b : Tree) (r : List Lexeme) → depth a ≤ n → inner (tighter p) (rest_of ts) ≡ Some (b, r) → operations n inner p (m - t) l a ts ≡ operations n inner p (m - (t + 1)) l (binary l a o b) r
    operations_step b r d f =
        operator_read
        ∙ ap (λ z. when z (and_read (inner (tighter p) (rest_of ts)) (λ b. operations n inner p (m - (t + 1)) l (binary l a o b)))) (le-leb (depth a) n d)
        ∙ ap (λ x. and_read x (λ b. operations n inner p (m - (t + 1)) l (binary l a o b))) f

  module _ (m t l : ℕ) (a : Tree) (ts : List Lexeme) (h : t < m) (e : trails ts ≡ true) where
    trailer_read : posts n inner (m - t) l a ts ≡ when (nat_le (depth a) n) (and_read (post n inner (at (symbol.Mark sign.Dot) ts) l a (rest_of ts)) (posts n inner (m - (t + 1)) l))
    trailer_read = posts_turn n inner m t l a ts h ∙ ap (λ x. post_by n inner (posts n inner (m - (t + 1)) l) l a x (at (symbol.Mark sign.Dot) ts) ts) e

    pub posts_deep : n < depth a → posts n inner (m - t) l a ts ≡ None
    posts_deep d = trailer_read ∙ ap (λ z. when z (and_read (post n inner (at (symbol.Mark sign.Dot) ts) l a (rest_of ts)) (posts n inner (m - (t + 1)) l))) (too_deep (depth a) n d)

    pub posts_step : (dot : Bool) (b : Tree) (r : List Lexeme) → at (symbol.Mark sign.Dot) ts ≡ dot → depth a ≤ n → post n inner dot l a (rest_of ts) ≡ Some (b, r) → posts n inner (m - t) l a ts ≡ posts n inner (m - (t + 1)) l b r
    posts_step dot b r g d f =
        trailer_read
        ∙ ap (λ z. when z (and_read (post n inner (at (symbol.Mark sign.Dot) ts) l a (rest_of ts)) (posts n inner (m - (t + 1)) l))) (le-leb (depth a) n d)
        ∙ ap (λ z. and_read (post n inner z l a (rest_of ts)) (posts n inner (m - (t + 1)) l)) g
        ∙ ap (λ x. and_read x (posts n inner (m - (t + 1)) l)) f

  module _ (p : Place) (a : Tree) (m t : ℕ) (done : List Tree) (ts : List Lexeme) (h : t < m) (e : at (joint p) ts ≡ true) where
    joint_read : joints n inner p a (m - t) done ts ≡ when (nat_le (depth a) n) (and_read (inner (tighter p) (rest_of ts)) (λ b. joints n inner p a (m - (t + 1)) (done ++ b ∷ [])))
    joint_read = joints_turn n inner p a m t done ts h ∙ ap (λ x. joint_by n inner p a (joints n inner p a (m - (t + 1))) done x ts) e

    pub joints_deep : n < depth a → joints n inner p a (m - t) done ts ≡ None
    joints_deep d = joint_read ∙ ap (λ z. when z (and_read (inner (tighter p) (rest_of ts)) (λ b. joints n inner p a (m - (t + 1)) (done ++ b ∷ [])))) (too_deep (depth a) n d)

    joint_fits : depth a ≤ n → joints n inner p a (m - t) done ts ≡ and_read (inner (tighter p) (rest_of ts)) (λ b. joints n inner p a (m - (t + 1)) (done ++ b ∷ []))
    joint_fits d = joint_read ∙ ap (λ z. when z (and_read (inner (tighter p) (rest_of ts)) (λ b. joints n inner p a (m - (t + 1)) (done ++ b ∷ [])))) (le-leb (depth a) n d)

    pub joints_none : depth a ≤ n → inner (tighter p) (rest_of ts) ≡ None → joints n inner p a (m - t) done ts ≡ None
    joints_none d f = joint_fits d ∙ ap (λ x. and_read x (λ b. joints n inner p a (m - (t + 1)) (done ++ b ∷ []))) f

    pub joints_step : (b : Tree) (r : List Lexeme) → depth a ≤ n → inner (tighter p) (rest_of ts) ≡ Some (b, r) → joints n inner p a (m - t) done ts ≡ joints n inner p a (m - (t + 1)) (done ++ b ∷ []) r
    joints_step b r d f = joint_fits d ∙ ap (λ x. and_read x (λ b. joints n inner p a (m - (t + 1)) (done ++ b ∷ []))) f

  pub joints_end : (p : Place) (a : Tree) (m t : ℕ) (done : List Tree) (ts : List Lexeme) → m ≤ t → joints n inner p a (m - t) done ts ≡ Some (done, ts)
  joints_end p a m t done ts h = let e : m - t ≡ 0 = omega arith in ap (λ x. joints n inner p a x done ts) e

  module _ (a : Tree) (m t : ℕ) (done : List (CompareOp × Tree)) (ts : List Lexeme) (o : CompareOp) (h : t < m) (e : compare_at ts ≡ Some o) where
    abbrev Compared : Tree → List Lexeme → Option (List (CompareOp × Tree) × List Lexeme)
    Compared b r = when (may_compare o b) (comparisons n inner a (m - (t + 1)) (done ++ (o, b) ∷ []) r)

    compared_read : comparisons n inner a (m - t) done ts ≡ when (nat_le (depth a) n) (and_read (inner place.Sum (behind_op o ts)) Compared)
    compared_read = comparisons_turn n inner a m t done ts h ∙ ap (λ x. compared_by n inner a (comparisons n inner a (m - (t + 1))) done x ts) e

    pub comparisons_deep : n < depth a → comparisons n inner a (m - t) done ts ≡ None
    comparisons_deep d = compared_read ∙ ap (λ z. when z (and_read (inner place.Sum (behind_op o ts)) Compared)) (too_deep (depth a) n d)

    compared_fits : (b : Tree) (r : List Lexeme) → depth a ≤ n → inner place.Sum (behind_op o ts) ≡ Some (b, r) → comparisons n inner a (m - t) done ts ≡ Compared b r
    compared_fits b r d f =
        compared_read
        ∙ ap (λ z. when z (and_read (inner place.Sum (behind_op o ts)) Compared)) (le-leb (depth a) n d)
        ∙ ap (λ x. and_read x Compared) f

    pub comparisons_refused : (b : Tree) (r : List Lexeme) → depth a ≤ n → inner place.Sum (behind_op o ts) ≡ Some (b, r) → may_compare o b ≡ false → comparisons n inner a (m - t) done ts ≡ None
    comparisons_refused b r d f g = compared_fits b r d f ∙ ap (λ z. when z (comparisons n inner a (m - (t + 1)) (done ++ (o, b) ∷ []) r)) g

    pub comparisons_step : (b : Tree) (r : List Lexeme) → depth a ≤ n → inner place.Sum (behind_op o ts) ≡ Some (b, r) → may_compare o b ≡ true → comparisons n inner a (m - t) done ts ≡ comparisons n inner a (m - (t + 1)) (done ++ (o, b) ∷ []) r
    comparisons_step b r d f g = compared_fits b r d f ∙ ap (λ z. when z (comparisons n inner a (m - (t + 1)) (done ++ (o, b) ∷ []) r)) g

-- ---- what the invariants say of a turn: x is what the whole loop reads

module _ (n : ℕ) (inner : Place → Reader Tree) (m t : ℕ) (ts : List Lexeme) (x : Option (Tree × List Lexeme)) (d : ℕ) where
  module _ (p : Place) (l : ℕ) (a : Tree) (o : BinaryOp) (same : operations n inner p (m - t) l a ts ≡ x) (h : t < m) (e : op_at p ts ≡ Some o) (known : depth a ≡ d) where
    pub leaning_deep : n < d → x ≡ None
    leaning_deep q = sym same ∙ operations_deep n inner p m t l a ts o h e (omega (arith, known))

    pub leaning_step : (b c : Tree) (r : List Lexeme) → d ≤ n → inner (tighter p) (rest_of ts) ≡ Some (b, r) → c ≡ binary l a o b → operations n inner p (m - (t + 1)) l c r ≡ x
    leaning_step b c r q f g = ap (λ z. operations n inner p (m - (t + 1)) l z r) g ∙ sym (operations_step n inner p m t l a ts o h e b r (omega (arith, known)) f) ∙ same

  module _ (l : ℕ) (a : Tree) (same : posts n inner (m - t) l a ts ≡ x) (h : t < m) (e : trails ts ≡ true) (known : depth a ≡ d) where
    pub postfix_deep : n < d → x ≡ None
    postfix_deep q = sym same ∙ posts_deep n inner m t l a ts h e (omega (arith, known))

    pub postfix_step : (dot : Bool) (b : Tree) (r : List Lexeme) → d ≤ n → at (symbol.Mark sign.Dot) ts ≡ dot → post n inner dot l a (rest_of ts) ≡ Some (b, r) → posts n inner (m - (t + 1)) l b r ≡ x
    postfix_step dot b r q g f = sym (posts_step n inner m t l a ts h e dot b r g (omega (arith, known)) f) ∙ same

  module _ (p : Place) (a : Tree) (done : List Tree) (f : List Tree → Reader Tree) (same : and_read (joints n inner p a (m - t) done ts) f ≡ x) where
    module _ (h : t < m) (e : at (joint p) ts ≡ true) (known : depth a ≡ d) where
      pub joining_deep : n < d → x ≡ None
      joining_deep q = sym same ∙ ap (λ z. and_read z f) (joints_deep n inner p a m t done ts h e (omega (arith, known)))

      pub joining_none : d ≤ n → inner (tighter p) (rest_of ts) ≡ None → x ≡ None
      joining_none q g = sym same ∙ ap (λ z. and_read z f) (joints_none n inner p a m t done ts h e (omega (arith, known)) g)

      pub joining_step : (b : Tree) (more : List Tree) (r : List Lexeme) → d ≤ n → inner (tighter p) (rest_of ts) ≡ Some (b, r) → more ≡ done ++ b ∷ [] → and_read (joints n inner p a (m - (t + 1)) more r) f ≡ x
      joining_step b more r q g k =
          ap (λ z. and_read (joints n inner p a (m - (t + 1)) z r) f) k
          ∙ ap (λ z. and_read z f) (sym (joints_step n inner p a m t done ts h e b r (omega (arith, known)) g))
          ∙ same

    pub joining_end : m ≤ t → x ≡ f done ts
    joining_end h = sym same ∙ ap (λ z. and_read z f) (joints_end n inner p a m t done ts h)

  module _ (a : Tree) (done : List (CompareOp × Tree)) (f : List (CompareOp × Tree) → Reader Tree) (o : CompareOp) (same : and_read (comparisons n inner a (m - t) done ts) f ≡ x) (h : t < m) (e : compare_at ts ≡ Some o) (known : depth a ≡ d) where
    pub comparing_deep : n < d → x ≡ None
    comparing_deep q = sym same ∙ ap (λ z. and_read z f) (comparisons_deep n inner a m t done ts o h e (omega (arith, known)))

    pub comparing_refused : (b : Tree) (r : List Lexeme) → d ≤ n → inner place.Sum (behind_op o ts) ≡ Some (b, r) → may_compare o b ≡ false → x ≡ None
    comparing_refused b r q g k = sym same ∙ ap (λ z. and_read z f) (comparisons_refused n inner a m t done ts o h e b r (omega (arith, known)) g k)

    pub comparing_step : (b : Tree) (more : List (CompareOp × Tree)) (r : List Lexeme) → d ≤ n → inner place.Sum (behind_op o ts) ≡ Some (b, r) → may_compare o b ≡ true → more ≡ done ++ (o, b) ∷ [] → and_read (comparisons n inner a (m - (t + 1)) more r) f ≡ x
    comparing_step b more r q g k i =
        ap (λ z. and_read (comparisons n inner a (m - (t + 1)) z r) f) i
        ∙ ap (λ z. and_read z f) (sym (comparisons_step n inner a m t done ts o h e b r (omega (arith, known)) g k))
        ∙ same

-- ---- the depth behind a turn

pub one_deeper : (done more : List Tree) (b : Tree) (d e k : ℕ) → more ≡ done ++ b ∷ [] → depth_each (trees done) ≡ d → depth b ≡ e → k ≡ max d e → depth_each (trees more) ≡ k
one_deeper done more b d e k h p q r = ap (λ z. depth_each (trees z)) h ∙ depth_each-append done b ∙ ap (λ z. max z (depth b)) p ∙ ap (max d) q ∙ sym r

pub one_operand : (done more : List (CompareOp × Tree)) (o : CompareOp) (b : Tree) (d e k : ℕ) → more ≡ done ++ (o, b) ∷ [] → depth_operands (operands done) ≡ d → depth b ≡ e → k ≡ max d e → depth_operands (operands more) ≡ k
one_operand done more o b d e k h p q r = ap (λ z. depth_operands (operands z)) h ∙ depth_operands-append done (o, b) ∙ ap (λ z. max z (depth b)) p ∙ ap (max d) q ∙ sym r

pub operator_depth : (l : ℕ) (a : Tree) (o : BinaryOp) (b c : Tree) (d e k : ℕ) → c ≡ binary l a o b → depth a ≡ d → depth b ≡ e → k ≡ max d e → depth c ≡ 1 + k
operator_depth l a o b c d e k h p q r = ap depth h ∙ ap (λ z. 1 + max z (depth b)) p ∙ ap (λ z. 1 + max d z) q ∙ ap (λ z. 1 + z) (sym r)
