-- The items of a slice.
use Rattle.std.proofs.Common.{◌≡◌, ◌+◌, ◌-◌, ◌≤◌, ◌++◌, ℕ, zero, suc, List, [], ◌∷◌, Option, Ok, ℤ, pos, length, take, drop, refl, sym, ap, ◌∙◌, arith}
use Rattle.std.specs.List.{AllByRecursion}
use Rattle.tx_values.specs.declared.value.Value.{Value}
use Rattle.tx_values.specs.Answer.{Answer, ◌>>=◌}
use Rattle.tx_values.specs.Limits.{depth, weight}
use Rattle.tx_ops.specs.Slice.{bound_of, part_between}
use Rattle.tx_ops.proofs.LimitLemmas.{depths, weights}
use Rattle.tx_num.specs.Place.{items_between, natural, sliced, spaced, start_of, stop_of}

-- with a step of 1 nothing is passed over
pub spaced_all : {A : Type 0} (items : List A) → spaced 0 0 items ≡ items
spaced_all [] = refl
spaced_all (x ∷ items) = ap (λ xs. x ∷ xs) (spaced_all items)

-- a slice is what stands between two places
pub sliced_is : {A : Type 0} (items : List A) (from to : Option ℤ) (start stop : ℕ) → pos start ≡ start_of (pos 1) (length items) from → pos stop ≡ stop_of (pos 1) (length items) to → sliced (pos 1) from to items ≡ take (stop - start) (drop start items)
sliced_is items from to start stop s t =
    spaced_all (items_between (start_of (pos 1) (length items) from) (stop_of (pos 1) (length items) to) items)
    ∙ (ap (λ (z : ℤ). items_between z (stop_of (pos 1) (length items) to) items) (sym s) ∙ ap (λ (z : ℤ). items_between (pos start) z items) (sym t))

-- what the code cuts out is the part between two bounds
pub part_is : {A : Type 0} (items part : List A) (from to : Option Value) (i j : Option ℤ) (n m start stop : ℕ)
    → bound_of from ≡ Ok i → bound_of to ≡ Ok j → n ≡ length items → m ≡ length items → pos start ≡ start_of (pos 1) n i → pos stop ≡ stop_of (pos 1) m j
    → part ≡ take (stop - start) (drop start items) → part_between items from to ≡ Ok part
part_is {A = A} items part from to i j n m start stop f t e d s u p =
    let first : pos start ≡ start_of (pos 1) (length items) i = s ∙ ap (λ (k : ℕ). start_of (pos 1) k i) e in
    let last : pos stop ≡ stop_of (pos 1) (length items) j = u ∙ ap (λ (k : ℕ). stop_of (pos 1) k j) d in
    ap (λ (o : Answer (Option ℤ)). o >>= (λ k. bound_of to >>= (λ l. Ok (sliced (pos 1) k l items)))) f
    ∙ (ap (λ (o : Answer (Option ℤ)). o >>= (λ l. Ok (sliced (pos 1) i l items))) t
    ∙ ap (λ (q : List A). Ok q) (sliced_is items i j start stop first last ∙ sym p))

-- ---- what holds of all items holds of those of a slice

module _ {A : Type 0} (P : A → Type 0) where
  pub all_take : (n : ℕ) (items : List A) → AllByRecursion P items → AllByRecursion P (take n items)
  all_take zero items h = tt
  all_take (suc n) [] h = tt
  all_take (suc n) (x ∷ items) h = (h.0, all_take n items h.1)

  pub all_drop : (n : ℕ) (items : List A) → AllByRecursion P items → AllByRecursion P (drop n items)
  all_drop zero items h = h
  all_drop (suc n) [] h = tt
  all_drop (suc n) (x ∷ items) h = all_drop n items h.1

  pub all_spaced : (gap skip : ℕ) (items : List A) → AllByRecursion P items → AllByRecursion P (spaced gap skip items)
  all_spaced gap skip [] h = tt
  all_spaced gap zero (x ∷ items) h = (h.0, all_spaced gap gap items h.1)
  all_spaced gap (suc skip) (x ∷ items) h = all_spaced gap skip items h.1

  pub all_sliced : (from to : Option ℤ) (items : List A) → AllByRecursion P items → AllByRecursion P (sliced (pos 1) from to items)
  all_sliced from to items h =
      let start = natural (start_of (pos 1) (length items) from) in
      let stop = natural (stop_of (pos 1) (length items) to) in
      all_spaced 0 0 (take (stop - start) (drop start items)) (all_take (stop - start) (drop start items) (all_drop start items h))

  pub all_append : (xs ys : List A) → AllByRecursion P xs → AllByRecursion P ys → AllByRecursion P (xs ++ ys)
  all_append [] ys h k = k
  all_append (x ∷ xs) ys h k = (h.0, all_append xs ys h.1 k)

-- ---- a sum over all items is no less than one over those of a slice

module _ {A : Type 0} (size : A → ℕ) where
  abbrev pub sizes : List A → ℕ
  sizes [] = 0
  sizes (x ∷ xs) = (1 + size x) + sizes xs

  sizes_take : (n : ℕ) (items : List A) → sizes (take n items) ≤ sizes items
  sizes_take zero items = omega arith
  sizes_take (suc n) [] = omega arith
  sizes_take (suc n) (x ∷ items) = omega (arith, sizes_take n items)

  sizes_drop : (n : ℕ) (items : List A) → sizes (drop n items) ≤ sizes items
  sizes_drop zero items = omega arith
  sizes_drop (suc n) [] = omega arith
  sizes_drop (suc n) (x ∷ items) = omega (arith, sizes_drop n items)

  sizes_spaced : (gap skip : ℕ) (items : List A) → sizes (spaced gap skip items) ≤ sizes items
  sizes_spaced gap skip [] = omega arith
  sizes_spaced gap zero (x ∷ items) = omega (arith, sizes_spaced gap gap items)
  sizes_spaced gap (suc skip) (x ∷ items) = omega (arith, sizes_spaced gap skip items)

  pub sizes_sliced : (from to : Option ℤ) (items : List A) → sizes (sliced (pos 1) from to items) ≤ sizes items
  sizes_sliced from to items =
      let start = natural (start_of (pos 1) (length items) from) in
      let stop = natural (stop_of (pos 1) (length items) to) in
      omega (arith, sizes_spaced 0 0 (take (stop - start) (drop start items)), sizes_take (stop - start) (drop start items), sizes_drop start items)

-- ---- a slice weighs no more than the whole, and is no deeper

sizes_weights : (xs : List Value) → sizes weight xs ≡ weights xs
sizes_weights [] = refl
sizes_weights (x ∷ xs) = ap (λ (n : ℕ). (1 + weight x) + n) (sizes_weights xs)

pub weights_sliced : (from to : Option ℤ) (xs : List Value) → weights (sliced (pos 1) from to xs) ≤ weights xs
weights_sliced from to xs = omega (arith, sizes_weights xs, sizes_weights (sliced (pos 1) from to xs), sizes_sliced weight from to xs)

abbrev none_of : ℕ → ℕ
none_of c = 0

sizes_length : (s : List ℕ) → sizes none_of s ≡ length s
sizes_length [] = refl
sizes_length (c ∷ s) = omega (arith, sizes_length s)

pub length_sliced : (from to : Option ℤ) (s : List ℕ) → length (sliced (pos 1) from to s) ≤ length s
length_sliced from to s = omega (arith, sizes_length s, sizes_length (sliced (pos 1) from to s), sizes_sliced none_of from to s)

each_shallow : (most : ℕ) (xs : List Value) → depths xs ≤ most → AllByRecursion (λ x. depth x ≤ most) xs
each_shallow most [] h = tt
each_shallow most (x ∷ xs) h = (omega arith, each_shallow most xs (omega arith))

all_shallow : (most : ℕ) (xs : List Value) → AllByRecursion (λ x. depth x ≤ most) xs → depths xs ≤ most
all_shallow most [] h = omega arith
all_shallow most (x ∷ xs) h = omega (arith, h.0, all_shallow most xs h.1)

pub depths_sliced : (from to : Option ℤ) (xs : List Value) → depths (sliced (pos 1) from to xs) ≤ depths xs
depths_sliced from to xs = all_shallow (depths xs) (sliced (pos 1) from to xs) (all_sliced (λ x. depth x ≤ depths xs) from to xs (each_shallow (depths xs) xs (omega arith)))
