-- Lists that are gone through from the front: what was made of those ahead of a place, and what is to be made of the others.
use Rattle.std.proofs.Common.{◌≡◌, ℕ, zero, suc, ◌+◌, ◌<◌, ◌≤◌, ◌++◌, List, [], ◌∷◌, Option, Some, drop, filter_map, length, slice_get, refl, sym, ap, ◌∙◌, arith, add-one, append-nil, append_assoc, length-append, None}
use Rattle.std.specs.List.{cons_option, flat_map, sum_by}
use Rattle.std.proofs.Math.Seq.{drop-cons}
use Rattle.std.proofs.lemmas.Grind.{flat_map-append}
use Rattle.std.proofs.lemmas.List.{drop_all}
use Rattle.std.proofs.lemmas.List.Elements.{filter_map-append}
use Rattle.std.proofs.lemmas.List.Sums.{sum_by-cons}
use Rattle.std.proofs.lemmas.Option.{get_or_from_slice_get, slice_get_within}

-- ---- one place

pub there : {X : Type 0} (xs : List X) (i : ℕ) → i < length xs → (x : X) × (slice_get xs i ≡ Some x)
there [] i h = absurd (omega (arith, h))
there (x ∷ xs) zero h = (x, refl)
there (x ∷ xs) (suc i) h = there xs i (omega (arith, h))

pub split_there : {X : Type 0} (xs : List X) (i : ℕ) (x : X) → slice_get xs i ≡ Some x → drop i xs ≡ x ∷ drop (i + 1) xs
split_there {X} xs i x h =
    drop-cons xs i x (slice_get_within xs i x h)
    ∙ ap (λ (y : X). y ∷ drop (suc i) xs) (get_or_from_slice_get xs i x x h)
    ∙ ap (λ (n : ℕ). x ∷ drop n xs) (sym (add-one i))

-- ---- what is made of the parts of a list

abbrev pub Appends : {X Y : Type 0} → (List X → List Y) → Type 0
Appends {X} f = (xs ys : List X) → f (xs ++ ys) ≡ f xs ++ f ys

module _ {X Y : Type 0} (f : List X → List Y) (parts : Appends f) (all : List X) where
  -- one more
  pub next-part : (place : ℕ) (x : X) (was now start : List Y) → slice_get all place ≡ Some x → now ≡ was ++ f (x ∷ [])
      → was ++ f (drop place all) ≡ start ++ f all → now ++ f (drop (place + 1) all) ≡ start ++ f all
  next-part place x was now start at e h =
      ap (λ (l : List Y). l ++ f (drop (place + 1) all)) e
      ∙ append_assoc was (f (x ∷ [])) (f (drop (place + 1) all))
      ∙ ap (λ (l : List Y). was ++ l) (sym (parts (x ∷ []) (drop (place + 1) all)))
      ∙ ap (λ (l : List X). was ++ f l) (sym (split_there all place x at))
      ∙ h

  -- all of them
  pub last-part : f [] ≡ [] → (place : ℕ) (was whole : List Y) → length all ≤ place → was ++ f (drop place all) ≡ whole → was ≡ whole
  last-part none place was whole past h =
      sym (append-nil was) ∙ ap (λ (l : List Y). was ++ l) (sym none) ∙ ap (λ (l : List X). was ++ f l) (sym (drop_all place all past)) ∙ h

  -- how many
  pub next-length : (place : ℕ) (x : X) (was now total : ℕ) → slice_get all place ≡ Some x → now ≡ was + length (f (x ∷ []))
      → was + length (f (drop place all)) ≡ total → now + length (f (drop (place + 1) all)) ≡ total
  next-length place x was now total at e h =
      let a : length (f (drop place all)) ≡ length (f (x ∷ []) ++ f (drop (place + 1) all))
      = ap (λ (l : List X). length (f l)) (split_there all place x at) ∙ ap length (parts (x ∷ []) (drop (place + 1) all)) in
      let b : length (f (x ∷ []) ++ f (drop (place + 1) all)) ≡ length (f (x ∷ [])) + length (f (drop (place + 1) all)) = length-append (f (x ∷ [])) (f (drop (place + 1) all)) in
      omega (arith, a, b, e, h)

  pub last-length : f [] ≡ [] → (place : ℕ) (was total : ℕ) → length all ≤ place → was + length (f (drop place all)) ≡ total → was ≡ total
  last-length none place was total past h =
      let a : length (f (drop place all)) ≡ 0 = ap (λ (l : List X). length (f l)) (drop_all place all past) ∙ ap length none in
      omega (arith, a, h)

module _ {X : Type 0} (f : X → ℕ) (all : List X) where
  ahead : (place : ℕ) (x : X) → slice_get all place ≡ Some x → sum_by f (drop place all) ≡ f x + sum_by f (drop (place + 1) all)
  ahead place x at = ap (sum_by f) (split_there all place x at) ∙ sum_by-cons f x (drop (place + 1) all)

  pub next-sum : (place : ℕ) (x : X) (was now start : ℕ) → slice_get all place ≡ Some x → now ≡ was + f x
      → was + sum_by f (drop place all) ≡ start + sum_by f all → now + sum_by f (drop (place + 1) all) ≡ start + sum_by f all
  next-sum place x was now start at e h = let a = ahead place x at in omega (arith, a, e, h)

  pub most-sum : (place : ℕ) (x : X) (was now start : ℕ) → slice_get all place ≡ Some x → now ≤ was + f x
      → was + sum_by f (drop place all) ≡ start + sum_by f all → now ≤ start + sum_by f all
  most-sum place x was now start at e h = let a = ahead place x at in omega (arith, a, e, h)

  pub last-sum : (place : ℕ) (was start : ℕ) → length all ≤ place → was + sum_by f (drop place all) ≡ start + sum_by f all → was ≡ start + sum_by f all
  last-sum place was start past h =
      let e : sum_by f (drop place all) ≡ 0 = ap (sum_by f) (drop_all place all past) in
      omega (arith, e, h)

-- ---- `filter_map` and `flat_map` of it

pub maps_parts : {X Y : Type 0} (h : X → Option Y) → Appends (filter_map h)
maps_parts h xs ys = filter_map-append h xs ys

pub lines_parts : {X Y Z : Type 0} (h : X → Option Y) (f : Y → List Z) → Appends (λ (xs : List X). flat_map f (filter_map h xs))
lines_parts h f xs ys = ap (flat_map f) (filter_map-append h xs ys) ∙ flat_map-append f (filter_map h xs) (filter_map h ys)

pub one_at_most : {X : Type 0} (o : Option X) → length (cons_option o []) ≤ 1
one_at_most None = omega arith
one_at_most (Some x) = omega arith
