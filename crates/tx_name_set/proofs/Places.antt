-- The places of names.
use Rattle.std.proofs.Common.{◌≡◌, ℕ, zero, suc, ◌+◌, List, [], ◌∷◌, ◌++◌, length, map, take, Some, None, refl, sym, ap, ◌∙◌, Bool, true, false, not, ◌&&◌, ◌||◌, if◌then◌else◌, arith}
use Rattle.std.specs.Prelude.{nat_lt, position}
use Rattle.std.specs.List.{list_any, position_or_len, IsDistinct, AllByRecursion}
use Rattle.std.specs.Cmp.Lexicographic.{bytes_decides}
use Rattle.std.proofs.lemmas.Bool.{true≢false}
use Rattle.std.proofs.lemmas.Bool.Decides.{nat_tests}
use Rattle.tx_tree.specs.Words.{same_text}
use Rattle.tx_name_set.specs.NameSet.{place_in, slots_below}

-- ---- the first names

and_zero : (b : Bool) (a : ℕ) → (b && nat_lt a 0) ≡ false
and_zero true a = grind (arith, nat_tests)
and_zero false a = refl

less_next : (m n : ℕ) → nat_lt (1 + m) (suc n) ≡ nat_lt m n
less_next m n = grind (arith, nat_tests)

zero_less : (n : ℕ) → nat_lt 0 (suc n) ≡ true
zero_less n = grind (arith, nat_tests)

first_place : {X : Type 0} (p : X → Bool) (xs : List X) (k : ℕ) → (nat_lt (position_or_len p xs) (length xs) && nat_lt (position_or_len p xs) k) ≡ list_any p (take k xs)
first_place p [] zero = refl
first_place p [] (suc k) = refl
first_place p (x ∷ xs) zero = and_zero (nat_lt (position_or_len p (x ∷ xs)) (length (x ∷ xs))) (position_or_len p (x ∷ xs))
first_place p (x ∷ xs) (suc k) = by_test (p x) (first_place p xs k)
  where
    by_test : (b : Bool) → (nat_lt (position_or_len p xs) (length xs) && nat_lt (position_or_len p xs) k) ≡ list_any p (take k xs)
        → (nat_lt (if not b then 1 + position_or_len p xs else 0) (suc (length xs)) && nat_lt (if not b then 1 + position_or_len p xs else 0) (suc k)) ≡ (b || list_any p (take k xs))
    by_test true e = ap (λ c. c && nat_lt 0 (suc k)) (zero_less (length xs)) ∙ zero_less k
    by_test false e = ap (λ c. c && nat_lt (1 + position_or_len p xs) (suc k)) (less_next (position_or_len p xs) (length xs)) ∙ ap (λ c. nat_lt (position_or_len p xs) (length xs) && c) (less_next (position_or_len p xs) k) ∙ e

some_none : {A : Type 0} {x : A} → Some x ≡ None → ⊥
some_none h = cc

some_one : {A : Type 0} {x y : A} → Some x ≡ Some y → x ≡ y
some_one h = cc

-- an index that was found, and none
pub place_found : {X : Type 0} (p : X → Bool) (xs : List X) (i : ℕ) → Some i ≡ position p xs → i ≡ position_or_len p xs
place_found p xs i h = by_test (nat_lt (position_or_len p xs) (length xs)) h
  where
    by_test : (b : Bool) → Some i ≡ (if b then Some (position_or_len p xs) else None) → i ≡ position_or_len p xs
    by_test true k = some_one k
    by_test false k = absurd (some_none k)

pub among_found : {X : Type 0} (p : X → Bool) (xs : List X) (i k : ℕ) → Some i ≡ position p xs → nat_lt i k ≡ list_any p (take k xs)
among_found p xs i k h = by_test (nat_lt (position_or_len p xs) (length xs)) h (first_place p xs k)
  where
    by_test : (b : Bool) → Some i ≡ (if b then Some (position_or_len p xs) else None) → (b && nat_lt (position_or_len p xs) k) ≡ list_any p (take k xs) → nat_lt i k ≡ list_any p (take k xs)
    by_test true e f = ap (λ j. nat_lt j k) (some_one e) ∙ f
    by_test false e f = absurd (some_none e)

pub among_none : {X : Type 0} (p : X → Bool) (xs : List X) (k : ℕ) → None ≡ position p xs → false ≡ list_any p (take k xs)
among_none p xs k h = by_test (nat_lt (position_or_len p xs) (length xs)) h (first_place p xs k)
  where
    by_test : (b : Bool) → None ≡ (if b then Some (position_or_len p xs) else None) → (b && nat_lt (position_or_len p xs) k) ≡ list_any p (take k xs) → false ≡ list_any p (take k xs)
    by_test true e f = absurd (some_none (sym e))
    by_test false e f = f

at_end : {X : Type 0} (p : X → Bool) (xs : List X) → nat_lt (position_or_len p xs) (length xs) ≡ false → length xs ≡ position_or_len p xs
at_end p [] h = refl
at_end p (x ∷ xs) h = by_test (p x) (at_end p xs) h
  where
    by_test : (b : Bool) → (nat_lt (position_or_len p xs) (length xs) ≡ false → length xs ≡ position_or_len p xs)
        → nat_lt (if not b then 1 + position_or_len p xs else 0) (suc (length xs)) ≡ false → suc (length xs) ≡ (if not b then 1 + position_or_len p xs else 0)
    by_test true r k = absurd (true≢false (sym (zero_less (length xs)) ∙ k))
    by_test false r k = let e : length xs ≡ position_or_len p xs = r (sym (less_next (position_or_len p xs) (length xs)) ∙ k) in omega (arith, e)

pub place_none : {X : Type 0} (p : X → Bool) (xs : List X) → None ≡ position p xs → length xs ≡ position_or_len p xs
place_none p xs h = by_test (nat_lt (position_or_len p xs) (length xs)) refl h
  where
    by_test : (b : Bool) → nat_lt (position_or_len p xs) (length xs) ≡ b → None ≡ (if b then Some (position_or_len p xs) else None) → length xs ≡ position_or_len p xs
    by_test true e k = absurd (some_none (sym k))
    by_test false e k = at_end p xs e

-- ---- distinct names have the slots below their number

not_turned : (m n : List ℕ) → same_text m n ≡ false → same_text n m ≡ false
not_turned m n h = by_test (same_text n m) refl
  where
    by_test : (b : Bool) → same_text n m ≡ b → b ≡ false
    by_test true e = absurd (true≢false (sym ((bytes_decides m n).1 (sym ((bytes_decides n m).0 e))) ∙ h))
    by_test false e = refl

below_front : (n : ℕ) → slots_below (suc n) ≡ 0 ∷ map suc (slots_below n)
below_front zero = refl
below_front (suc n) = ap (λ xs. xs ++ suc n ∷ []) (below_front n) ∙ ap (λ xs. 0 ∷ xs) (pushed (slots_below n))
  where
    pushed : (xs : List ℕ) → map suc xs ++ suc n ∷ [] ≡ map suc (xs ++ n ∷ [])
    pushed [] = refl
    pushed (x ∷ xs) = ap (λ ys. suc x ∷ ys) (pushed xs)

one_more : (n : ℕ) → 1 + n ≡ suc n
one_more n = omega arith

behind : (x : List ℕ) (all xs : List (List ℕ)) → AllByRecursion (λ y. same_text x y ≡ false) xs → map (place_in (x ∷ all)) xs ≡ map suc (map (place_in all) xs)
behind x all [] h = refl
behind x all (y ∷ xs) h = ap (λ b. (if not b then 1 + place_in all y else 0) ∷ map (place_in (x ∷ all)) xs) (not_turned x y h.0)
    ∙ ap (λ i. i ∷ map (place_in (x ∷ all)) xs) (one_more (place_in all y)) ∙ ap (λ ys. suc (place_in all y) ∷ ys) (behind x all xs h.1)

pub places_below : (names : List (List ℕ)) → IsDistinct same_text names → map (place_in names) names ≡ slots_below (length names)
unfolding IsDistinct
places_below [] h = refl
places_below (x ∷ xs) h = ap (λ b. (if not b then 1 + place_in xs x else 0) ∷ map (place_in (x ∷ xs)) xs) ((bytes_decides x x).1 refl)
    ∙ ap (λ ys. 0 ∷ ys) (behind x xs xs h.0 ∙ ap (λ ys. map suc ys) (places_below xs h.1)) ∙ sym (below_front (length xs))
