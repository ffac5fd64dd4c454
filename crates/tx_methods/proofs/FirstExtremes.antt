-- `min` and `max` of numbers and of texts: the item that is found is the first of the least, and of the greatest.
use Rattle.std.proofs.Common.{◌≡◌, ◌∙◌, Bool, true, false, List, [], ◌∷◌, ◌++◌, Ok, Err, refl, sym, ap, subst, inl, inr, ◌⊎◌, append_assoc, append-nil}
use Rattle.std.specs.Prelude.{if◌then◌else◌, IsOkAnd}
use Rattle.std.specs.List.{AllByRecursion}
use Rattle.tx_values.specs.declared.value.Value.{Value}
use Rattle.tx_values.specs.Answer.{Answer, ◌>>=◌}
use Rattle.tx_values.specs.Equality.{equal}
use Rattle.tx_values.specs.Order.{less}
use Rattle.tx_values.specs.Laws.{LessTransitiveLaw, OneOf, TrichotomyLaw}
use Rattle.tx_methods.specs.Builtins.{greatest_from, least_from}
use Rattle.tx_methods.specs.Laws.{ExtremesLaw, IsFirstGreatest, IsFirstLeast}

-- ---- lists

all_append : {A : Type 0} (P : A → Type 0) (xs ys : List A) → AllByRecursion P xs → AllByRecursion P ys → AllByRecursion P (xs ++ ys)
all_append P [] ys h k = k
all_append P (x ∷ xs) ys h k = (h.0, all_append P xs ys h.1 k)

all_map : {A : Type 0} (P Q : A → Type 0) (xs : List A) → ((x : A) → P x → Q x) → AllByRecursion P xs → AllByRecursion Q xs
all_map P Q [] f h = tt
all_map P Q (x ∷ xs) f h = (f x h.0, all_map P Q xs f h.1)

-- both hold of each
all_both : {A : Type 0} (P Q R : A → Type 0) (xs : List A) → ((x : A) → P x → Q x → R x) → AllByRecursion P xs → AllByRecursion Q xs → AllByRecursion R xs
all_both P Q R [] f h k = tt
all_both P Q R (x ∷ xs) f h k = (f x h.0 k.0, all_both P Q R xs f h.1 k.1)

no_both : {A : Type 0} {o : Answer Bool} → o ≡ Ok true → o ≡ Ok false → A
no_both e f = absurd (cc)

-- ---- any order in which items are compared

module _ (before : Value → Value → Answer Bool) where
  -- one of three
  abbrev Told : Value → Value → Type 0
  Told a b = ((before a b ≡ Ok true) × (before b a ≡ Ok false) × (equal a b ≡ false))
      ⊎ (((before a b ≡ Ok false) × (before b a ≡ Ok false) × (equal a b ≡ true)) ⊎ ((before a b ≡ Ok false) × (before b a ≡ Ok true) × (equal a b ≡ false)))

  told : (a b : Value) (p q : Bool) → before a b ≡ Ok p → before b a ≡ Ok q → OneOf p (equal a b) q → Told a b
  told a b p q e f (inl o) = inl (e ∙ ap Ok o.0, f ∙ ap Ok o.2, o.1)
  told a b p q e f (inr (inl o)) = inr (inl (e ∙ ap Ok o.0, f ∙ ap Ok o.2, o.1))
  told a b p q e f (inr (inr o)) = inr (inr (e ∙ ap Ok o.0, f ∙ ap Ok o.2, o.1))

  -- what is asked of the order, of the values that it is of
  record Orders (Is : Value → Type 0) : Type 0 where
    compares : (a b : Value) → Is a → Is b → Told a b
    passes : (a b c : Value) → Is a → Is b → Is c → before a b ≡ Ok true → before b c ≡ Ok true → before a c ≡ Ok true
    alike : (a b c : Value) → equal a b ≡ true → equal b c ≡ true → equal a c ≡ true

  record First (items : List Value) (found : Value) : Type 0 where
    ahead : List Value
    behind : List Value
    whole : items ≡ ahead ++ (found ∷ behind)
    best : AllByRecursion (λ item. before item found ≡ Ok false) items
    first : AllByRecursion (λ item. before found item ≡ Ok true) ahead

  itself : (Is : Value → Type 0) → Orders Is → (a : Value) → Is a → before a a ≡ Ok false
  itself Is os a h = elim (os.compares a a h h) [ inl t ↦ t.1 | inr t ↦ elim t [ inl u ↦ u.0 | inr u ↦ u.0 ] ]

  -- what is before one that is kept is before all that the kept one was not behind
  better : (Is : Value → Type 0) → Orders Is → (x kept y : Value) → Is x → Is kept → Is y → before x kept ≡ Ok true → before y kept ≡ Ok false
      → (before y x ≡ Ok false) × (before x y ≡ Ok true)
  better Is os x kept y hx hk hy e f = by_pair (os.compares x y hx hy)
    where
      by_equal : before x y ≡ Ok false → equal x y ≡ true → Told y kept → Told x kept → (before y x ≡ Ok false) × (before x y ≡ Ok true)
      by_equal g s (inl t) u = no_both t.0 f
      by_equal g s (inr (inr t)) u = no_both (os.passes x kept y hx hk hy e t.1) g
      by_equal g s (inr (inl t)) (inl u) = absurd (let same : equal x kept ≡ true = os.alike x y kept s t.2 in let other : equal x kept ≡ false = u.2 in cc)
      by_equal g s (inr (inl t)) (inr (inl u)) = no_both e u.0
      by_equal g s (inr (inl t)) (inr (inr u)) = no_both e u.0

      by_pair : Told x y → (before y x ≡ Ok false) × (before x y ≡ Ok true)
      by_pair (inl t) = (t.1, t.0)
      by_pair (inr (inr t)) = no_both (os.passes y x kept hy hx hk t.1 e) f
      by_pair (inr (inl t)) = by_equal t.0 t.2 (os.compares y kept hy hk) (os.compares x kept hx hk)

  all_better : (Is : Value → Type 0) → Orders Is → (x kept : Value) → Is x → Is kept → before x kept ≡ Ok true → (ys : List Value) → AllByRecursion Is ys
      → AllByRecursion (λ y. before y kept ≡ Ok false) ys → AllByRecursion (λ y. before y x ≡ Ok false) ys × AllByRecursion (λ y. before x y ≡ Ok true) ys
  all_better Is os x kept hx hk e [] h k = (tt, tt)
  all_better Is os x kept hx hk e (y ∷ ys) h k =
      let here = better Is os x kept y hx hk h.0 e k.0 in
      let rest = all_better Is os x kept hx hk e ys h.1 k.1 in
      ((here.0, rest.0), (here.1, rest.1))

  module _ (Is : Value → Type 0) (os : Orders Is) (from : Value → List Value → Answer Value)
      (stop : (kept : Value) → from kept [] ≡ Ok kept)
      (turn : (kept item : Value) (items : List Value) → from kept (item ∷ items) ≡ (before item kept >>= (λ b. from (if b then item else kept) items)))
      (whole : List Value) where
    found : (kept : Value) (pre mid items : List Value) → whole ≡ (pre ++ kept ∷ mid) ++ items → Is kept → AllByRecursion Is (pre ++ kept ∷ mid) → AllByRecursion Is items
        → AllByRecursion (λ y. before y kept ≡ Ok false) (pre ++ kept ∷ mid) → AllByRecursion (λ y. before kept y ≡ Ok true) pre
        → IsOkAnd (from kept items) (First whole)
    found kept pre mid [] e hk hs h best first =
        subst (λ r. IsOkAnd r (First whole)) (sym (stop kept))
        (let split : whole ≡ pre ++ (kept ∷ mid) = e ∙ append-nil (pre ++ kept ∷ mid) in
        record {
          ahead = pre;
          behind = mid;
          whole = split;
          best = subst (AllByRecursion (λ y. before y kept ≡ Ok false)) (sym split) best;
          first = first;
        })
    found kept pre mid (x ∷ xs) e hk hs h best first =
        by_order
        (λ f. found kept pre (mid ++ x ∷ []) xs (e ∙ simp append_assoc) hk
        (subst (AllByRecursion Is) (append_assoc pre (kept ∷ mid) (x ∷ [])) (all_append Is (pre ++ kept ∷ mid) (x ∷ []) hs (h.0, tt)))
        h.1
        (subst (AllByRecursion (λ y. before y kept ≡ Ok false)) (append_assoc pre (kept ∷ mid) (x ∷ []))
        (all_append (λ y. before y kept ≡ Ok false) (pre ++ kept ∷ mid) (x ∷ []) best (f, tt)))
        first)
        (λ f. found x (pre ++ kept ∷ mid) [] xs (e ∙ sym (append_assoc (pre ++ kept ∷ mid) (x ∷ []) xs)) h.0
        (all_append Is (pre ++ kept ∷ mid) (x ∷ []) hs (h.0, tt))
        h.1
        (all_append (λ y. before y x ≡ Ok false) (pre ++ kept ∷ mid) (x ∷ []) (all_better Is os x kept h.0 hk f (pre ++ kept ∷ mid) hs best).0 (itself Is os x h.0, tt))
        (all_better Is os x kept h.0 hk f (pre ++ kept ∷ mid) hs best).1)
        (os.compares x kept h.0 hk)
      where
        by_order : (before x kept ≡ Ok false → IsOkAnd (from kept xs) (First whole)) → (before x kept ≡ Ok true → IsOkAnd (from x xs) (First whole)) → Told x kept → IsOkAnd (from kept (x ∷ xs)) (First whole)
        by_order stays goes (inl t) = subst (λ r. IsOkAnd r (First whole)) (sym (turn kept x xs ∙ ap (λ o. o >>= (λ b. from (if b then x else kept) xs)) t.0)) (goes t.0)
        by_order stays goes (inr (inl t)) = subst (λ r. IsOkAnd r (First whole)) (sym (turn kept x xs ∙ ap (λ o. o >>= (λ b. from (if b then x else kept) xs)) t.0)) (stays t.0)
        by_order stays goes (inr (inr t)) = subst (λ r. IsOkAnd r (First whole)) (sym (turn kept x xs ∙ ap (λ o. o >>= (λ b. from (if b then x else kept) xs)) t.0)) (stays t.0)

-- ---- `min` and `max`

abbrev after : Value → Value → Answer Bool
after a b = less b a

module _ (Is : Value → Type 0) (total : TrichotomyLaw Is) (through : LessTransitiveLaw Is) (alike : (a b c : Value) → equal a b ≡ true → equal b c ≡ true → equal a c ≡ true) where
  by_less : Orders less Is
  by_less = record {
    compares = λ a b h k. let t = total a b h k in told less a b t.0 t.1 t.2 t.3 t.4;
    passes = through;
    alike = alike;
  }

  swapped : {p e q : Bool} → OneOf p e q → OneOf q e p
  swapped (inl o) = inr (inr (o.2, o.1, o.0))
  swapped (inr (inl o)) = inr (inl (o.2, o.1, o.0))
  swapped (inr (inr o)) = inl (o.2, o.1, o.0)

  by_after : Orders after Is
  by_after = record {
    compares = λ a b h k. let t = total a b h k in told after a b t.1 t.0 t.3 t.2 (swapped t.4);
    passes = λ a b c h k l e f. through c b a l k h f e;
    alike = alike;
  }

  pub extremes : ExtremesLaw Is
  extremes item items h = (
    elim (least_from item items) as (λ r. IsOkAnd r (First less (item ∷ items)) → IsOkAnd r (IsFirstLeast (item ∷ items))) [
      | Ok v ↦ λ f. record { ahead = f.ahead; behind = f.behind; whole = f.whole; least = f.best; first = f.first }
      | Err c ↦ λ f. f
    ] (found less Is by_less least_from (λ k. refl) (λ k x xs. refl) (item ∷ items) item [] [] items refl h.0 (h.0, tt) h.1 (itself less Is by_less item h.0, tt) tt),
    elim (greatest_from item items) as (λ r. IsOkAnd r (First after (item ∷ items)) → IsOkAnd r (IsFirstGreatest (item ∷ items))) [
      | Ok v ↦ λ f. record { ahead = f.ahead; behind = f.behind; whole = f.whole; greatest = f.best; first = f.first }
      | Err c ↦ λ f. f
    ] (found after Is by_after greatest_from (λ k. refl) (λ k x xs. refl) (item ∷ items) item [] [] items refl h.0 (h.0, tt) h.1 (itself after Is by_after item h.0, tt) tt),
  )
