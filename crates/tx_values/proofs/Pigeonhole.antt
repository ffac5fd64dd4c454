-- Where each of a list has its like in another that is as long, and no two share one, each of the other is had.
use Rattle.std.proofs.Common.{◌≡◌, ◌⊎◌, inl, inr, suc, List, [], ◌∷◌, length, refl, ap, ◌∙◌}
use Rattle.std.proofs.Math.Nat.{suc_inj}
use Rattle.std.specs.List.{AllByRecursion}

-- P holds of an item
abbrev pub Any : {X : Type 0} → (X → Type 0) → List X → Type 0
Any P [] = ⊥
Any P (x ∷ xs) = P x ⊎ Any P xs

pub each_map : {X : Type 0} (P Q : X → Type 0) (xs : List X) → ((x : X) → P x → Q x) → AllByRecursion P xs → AllByRecursion Q xs
each_map P Q [] f h = tt
each_map P Q (x ∷ xs) f h = (f x h.0, each_map P Q xs f h.1)

each_both : {X : Type 0} (P Q R : X → Type 0) (xs : List X) → ((x : X) → P x → Q x → R x) → AllByRecursion P xs → AllByRecursion Q xs → AllByRecursion R xs
each_both P Q R [] f h g = tt
each_both P Q R (x ∷ xs) f h g = (f x h.0 g.0, each_both P Q R xs f h.1 g.1)

pub any_both : {X : Type 0} (P Q R : X → Type 0) (xs : List X) → ((x : X) → P x → Q x → R x) → Any P xs → AllByRecursion Q xs → Any R xs
any_both P Q R [] f a h = absurd a
any_both P Q R (x ∷ xs) f (inl p) h = inl (f x p h.0)
any_both P Q R (x ∷ xs) f (inr a) h = inr (any_both P Q R xs f a h.1)

pub any_meets : {X C : Type 0} (P Q : X → Type 0) (xs : List X) → ((x : X) → P x → Q x → C) → Any P xs → AllByRecursion Q xs → C
any_meets P Q [] f a h = absurd a
any_meets P Q (x ∷ xs) f (inl p) h = f x p h.0
any_meets P Q (x ∷ xs) f (inr a) h = any_meets P Q xs f a h.1

-- ---- a list without the item that was found

cut : {X : Type 0} (P : X → Type 0) (xs : List X) → Any P xs → List X
cut P [] a = []
cut P (x ∷ xs) (inl p) = xs
cut P (x ∷ xs) (inr a) = x ∷ cut P xs a

cut_length : {X : Type 0} (P : X → Type 0) (xs : List X) (a : Any P xs) → length xs ≡ suc (length (cut P xs a))
unfolding cut
cut_length P [] a = absurd a
cut_length P (x ∷ xs) (inl p) = refl
cut_length P (x ∷ xs) (inr a) = ap suc (cut_length P xs a)

-- another item stays
cut_keeps : {X : Type 0} (P Q : X → Type 0) (xs : List X) (a : Any P xs) → ((x : X) → P x → Q x → ⊥) → Any Q xs → Any Q (cut P xs a)
unfolding cut
cut_keeps P Q [] a apart b = absurd a
cut_keeps P Q (x ∷ xs) (inl p) apart (inl q) = absurd (apart x p q)
cut_keeps P Q (x ∷ xs) (inl p) apart (inr b) = b
cut_keeps P Q (x ∷ xs) (inr a) apart (inl q) = inl q
cut_keeps P Q (x ∷ xs) (inr a) apart (inr b) = inr (cut_keeps P Q xs a apart b)

-- what holds of it and of all others holds of all
cut_back : {X : Type 0} (P Q : X → Type 0) (xs : List X) (a : Any P xs) → ((x : X) → P x → Q x) → AllByRecursion Q (cut P xs a) → AllByRecursion Q xs
unfolding cut
cut_back P Q [] a f h = tt
cut_back P Q (x ∷ xs) (inl p) f h = (f x p, h)
cut_back P Q (x ∷ xs) (inr a) f h = (h.0, cut_back P Q xs a f h.1)

-- ---- the principle

module _ {A B : Type 0} (R : A → B → Type 0) where
  abbrev pub NoneShared : A → A → Type 0
  NoneShared p o = (q : B) → R p q → R o q → ⊥

  -- no two have their like in common
  abbrev pub Apart : List A → Type 0
  Apart [] = Unit {0}
  Apart (p ∷ ps) = AllByRecursion (NoneShared p) ps × Apart ps

  abbrev pub Placed : List B → A → Type 0
  Placed qs p = Any (R p) qs

  abbrev pub Had : List A → B → Type 0
  Had ps q = Any (λ p. R p q) ps

  pub covered : (ps : List A) (qs : List B) → length ps ≡ length qs → Apart ps → AllByRecursion (Placed qs) ps → AllByRecursion (Had ps) qs
  covered [] [] e d h = tt
  covered [] (q ∷ qs) e d h = cc e
  covered (p ∷ ps) qs e d h =
      let left = cut (R p) qs h.0 in
      let placed = each_both (NoneShared p) (Placed qs) (Placed left) ps (λ o none. cut_keeps (R p) (R o) qs h.0 none) d.0 h.1 in
      let had = covered ps left (suc_inj (e ∙ cut_length (R p) qs h.0)) d.1 placed in
      cut_back (R p) (Had (p ∷ ps)) qs h.0 (λ q r. inl r) (each_map (Had ps) (Had (p ∷ ps)) left (λ q a. inr a) had)
