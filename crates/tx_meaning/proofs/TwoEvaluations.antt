-- Two evaluations side by side: of maps that are related they give the same value or class, and maps that are related.
use Rattle.std.proofs.Common.{◌≡◌, List, [], ◌∷◌, Ok, Err, refl, sym, ap, ◌∙◌, subst, Bool, true, false, if◌then◌else◌}
use Rattle.tx_base.specs.declared.class.Class.{Class}
use Rattle.tx_values.specs.declared.value.Value.{Value}
use Rattle.tx_values.specs.Answer.{Answer, ◌>>=◌}
use Rattle.tx_names.specs.Function.{Target}
use Rattle.tx_meaning.specs.Maps.{Map, take}
use Rattle.tx_meaning.specs.Meaning.{Course, goes_on, breaks, continues, gives_back, and_then, and_again, result_of, add_turn, collect, turn, turns}

-- ---- answers

-- the same class, or results that stand in Q
abbrev OfBoth : {A B : Type 0} → (A → B → Type 0) → Answer A → Answer B → Type 0
OfBoth Q (Ok a) (Ok b) = Q a b
OfBoth Q (Err c) (Err d) = c ≡ d
OfBoth Q _ _ = ⊥

-- as a record, so that antt sees what it is of
pub record Both {A B : Type 0} (Q : A → B → Type 0) (o : Answer A) (u : Answer B) : Type 0 where
  pub of : OfBoth Q o u

pub both : {A B : Type 0} {Q : A → B → Type 0} {a : A} {b : B} → Q a b → Both Q (Ok a) (Ok b)
both h = record { of = h }

pub raised : {A B : Type 0} {Q : A → B → Type 0} {c : Class} → Both Q (Err c) (Err c)
raised = record { of = refl }

-- one answer, and then what does not differ
pub go : {A B : Type 0} {o u : Answer A} {f g : A → Answer B} → o ≡ u → ((a : A) → f a ≡ g a) → (o >>= f) ≡ (u >>= g)
go {u = u} {f = f} {g = g} e h = ap (λ o. o >>= f) e ∙ after u
  where
    after : (u : Answer _) → (u >>= f) ≡ (u >>= g)
    after (Ok a) = h a
    after (Err c) = refl

-- one answer, and then two ways to go on
pub go_on : {A B C : Type 0} (Q : B → C → Type 0) {o u : Answer A} {f : A → Answer B} {g : A → Answer C} → o ≡ u → ((a : A) → Both Q (f a) (g a)) → Both Q (o >>= f) (u >>= g)
go_on Q {u = u} {f = f} {g = g} e h = subst (λ o. Both Q (o >>= f) (u >>= g)) (sym e) (after u)
  where
    after : (u : Answer _) → Both Q (u >>= f) (u >>= g)
    after (Ok a) = h a
    after (Err c) = raised

-- two answers, and then two
pub go_both : {A B C D : Type 0} (P : A → B → Type 0) (Q : C → D → Type 0) (o : Answer A) (u : Answer B) {f : A → Answer C} {g : B → Answer D} → Both P o u → ((a : A) (b : B) → P a b → Both Q (f a) (g b)) → Both Q (o >>= f) (u >>= g)
go_both P Q (Ok a) (Ok b) s h = h a b s.of
go_both P Q (Err c) (Err d) s h = record { of = s.of }
go_both P Q (Ok a) (Err d) s h = elim (s.of) [ ]
go_both P Q (Err c) (Ok b) s h = elim (s.of) [ ]

-- two answers, and then what does not differ
pub go_end : {A B C : Type 0} (P : A → B → Type 0) (o : Answer A) (u : Answer B) {f : A → Answer C} {g : B → Answer C} → Both P o u → ((a : A) (b : B) → P a b → f a ≡ g b) → (o >>= f) ≡ (u >>= g)
go_end P (Ok a) (Ok b) s h = h a b s.of
go_end P (Err c) (Err d) s h = ap Err s.of
go_end P (Ok a) (Err d) s h = elim (s.of) [ ]
go_end P (Err c) (Ok b) s h = elim (s.of) [ ]

pub choose : {A : Type 0} {x y z w : A} (b : Bool) → x ≡ y → z ≡ w → (if b then x else z) ≡ (if b then y else w)
choose true e h = e
choose false e h = h

pub choose_both : {A B : Type 0} (Q : A → B → Type 0) {x z : Answer A} {y w : Answer B} (b : Bool) → Both Q x y → Both Q z w → Both Q (if b then x else z) (if b then y else w)
choose_both Q true e h = e
choose_both Q false e h = h

-- ---- how statements end

module _ {N K : Type 0} (same : N → N → Bool) (other : K → K → Bool) where
  abbrev pub Related : Type 1
  Related = Map same → Map other → Type 0

  -- the same end, with maps that are related
  abbrev pub Alike : Related → Course (Map same) → Course (Map other) → Type 0
  Alike R (goes_on m) (goes_on p) = R m p
  Alike R (breaks m) (breaks p) = R m p
  Alike R (continues m) (continues p) = R m p
  Alike R (gives_back x) (gives_back y) = x ≡ y
  Alike R _ _ = ⊥

  pub again_same : (R : Related) (c : Course (Map same)) (d : Course (Map other)) (f : Map same → Answer (Course (Map same))) (g : Map other → Answer (Course (Map other)))
      → Alike R c d → ((m : Map same) (p : Map other) → R m p → Both (Alike R) (f m) (g p)) → Both (Alike R) (and_again f c) (and_again g d)
  again_same R (goes_on m) (goes_on p) f g s h = h m p s
  again_same R (continues m) (continues p) f g s h = h m p s
  again_same R (breaks m) (breaks p) f g s h = both s
  again_same R (gives_back x) (gives_back y) f g s h = both s
  again_same R (goes_on m) _ f g s h = elim s [ ]
  again_same R (continues m) _ f g s h = elim s [ ]
  again_same R (breaks m) _ f g s h = elim s [ ]
  again_same R (gives_back x) _ f g s h = elim s [ ]

  pub then_same : (R : Related) (c : Course (Map same)) (d : Course (Map other)) (f : Map same → Answer (Course (Map same))) (g : Map other → Answer (Course (Map other)))
      → Alike R c d → ((m : Map same) (p : Map other) → R m p → Both (Alike R) (f m) (g p)) → Both (Alike R) (and_then f c) (and_then g d)
  then_same R (goes_on m) (goes_on p) f g s h = h m p s
  then_same R (continues m) (continues p) f g s h = both s
  then_same R (breaks m) (breaks p) f g s h = both s
  then_same R (gives_back x) (gives_back y) f g s h = both s
  then_same R (goes_on m) _ f g s h = elim s [ ]
  then_same R (continues m) _ f g s h = elim s [ ]
  then_same R (breaks m) _ f g s h = elim s [ ]
  then_same R (gives_back x) _ f g s h = elim s [ ]

  pub ends_same : (R : Related) (c : Course (Map same)) (d : Course (Map other)) → Alike R c d → result_of c ≡ result_of d
  ends_same R (goes_on m) (goes_on p) s = refl
  ends_same R (continues m) (continues p) s = refl
  ends_same R (breaks m) (breaks p) s = refl
  ends_same R (gives_back x) (gives_back y) s = s
  ends_same R (goes_on m) _ s = elim s [ ]
  ends_same R (continues m) _ s = elim s [ ]
  ends_same R (breaks m) _ s = elim s [ ]
  ends_same R (gives_back x) _ s = elim s [ ]

  -- ---- turns, of targets that lead from maps that are related to maps that are

  -- of a comprehension, inside which maps are related by `I`
  pub add_same : (R I : Related) (f : Map same → Answer Value) (g : Map other → Answer Value) (c : Map same → Answer Bool) (d : Map other → Answer Bool) (t : Target N) (u : Target K)
      → ((x : Value) (m : Map same) (p : Map other) → R m p → Both I (take same t x m) (take other u x p))
      → ((m : Map same) (p : Map other) → I m p → f m ≡ g p) → ((m : Map same) (p : Map other) → I m p → c m ≡ d p)
      → (sofar : List Value) (x : Value) (m : Map same) (p : Map other) → R m p → add_turn same f c t sofar x m ≡ add_turn other g d u sofar x p
  add_same R I f g c d t u taken fg cd sofar x m p a = go_end I (take same t x m) (take other u x p) (taken x m p a) λ n q b.
      go (cd n q b) λ wanted. choose {z = Ok sofar} wanted (go (fg n q b) λ item. refl) refl

  pub collect_same : (R I : Related) (f : Map same → Answer Value) (g : Map other → Answer Value) (c : Map same → Answer Bool) (d : Map other → Answer Bool) (t : Target N) (u : Target K)
      → ((x : Value) (m : Map same) (p : Map other) → R m p → Both I (take same t x m) (take other u x p))
      → ((m : Map same) (p : Map other) → I m p → f m ≡ g p) → ((m : Map same) (p : Map other) → I m p → c m ≡ d p)
      → (sofar xs : List Value) (m : Map same) (p : Map other) → R m p → collect same f c t sofar xs m ≡ collect other g d u sofar xs p
  unfolding collect
  collect_same R I f g c d t u taken fg cd sofar [] m p a = refl
  collect_same R I f g c d t u taken fg cd sofar (x ∷ xs) m p a = go (add_same R I f g c d t u taken fg cd sofar x m p a) λ all. collect_same R I f g c d t u taken fg cd all xs m p a

  pub turns_same : (R : Related) (f : Map same → Answer (Course (Map same))) (g : Map other → Answer (Course (Map other))) (t : Target N) (u : Target K)
      → ((x : Value) (m : Map same) (p : Map other) → R m p → Both R (take same t x m) (take other u x p))
      → ((m : Map same) (p : Map other) → R m p → Both (Alike R) (f m) (g p))
      → (xs : List Value) (m : Map same) (p : Map other) → R m p → Both (Alike R) (turns same f t xs m) (turns other g u xs p)
  unfolding turns
  turns_same R f g t u taken fg [] m p a = both a
  turns_same R f g t u taken fg (x ∷ xs) m p a = go_both (Alike R) (Alike R) (turn same f t x m) (turn other g u x p)
      (go_both R (Alike R) (take same t x m) (take other u x p) (taken x m p a) fg)
      λ c d s. again_same R c d (turns same f t xs) (turns other g u xs) s (turns_same R f g t u taken fg xs)
