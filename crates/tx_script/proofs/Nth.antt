-- The item at a place of two lists that follow one another.
use Rattle.std.proofs.Common.{◌≡◌, ℕ, zero, suc, ◌-◌, ◌<◌, ◌≤◌, List, [], ◌∷◌, ◌++◌, Some, map, length, get_or, refl, sym, ap, ◌∙◌, arith}
use Rattle.std.specs.Prelude.{slice_get}

pub nth_in_front : {A : Type 0} (xs ys : List A) (k : ℕ) → k < length xs → slice_get (xs ++ ys) k ≡ slice_get xs k
nth_in_front [] ys k h = absurd (omega (arith, h))
nth_in_front (x ∷ xs) ys zero h = refl
nth_in_front (x ∷ xs) ys (suc k) h = nth_in_front xs ys k (omega (arith, h))

pub nth_behind : {A : Type 0} (xs ys : List A) (k : ℕ) → length xs ≤ k → slice_get (xs ++ ys) k ≡ slice_get ys (k - length xs)
nth_behind [] ys k h = let e : k - 0 ≡ k = omega arith in rw e refl
nth_behind (x ∷ xs) ys zero h = absurd (omega (arith, h))
nth_behind (x ∷ xs) ys (suc k) h = let e : suc k - length (x ∷ xs) ≡ k - length xs = omega arith in nth_behind xs ys k (omega (arith, h)) ∙ ap (λ n. slice_get ys n) (sym e)

pub nth_of : {A B : Type 0} (f : A → B) (xs : List A) (k : ℕ) (x : A) → k < length xs → x ≡ get_or xs k x → slice_get (map f xs) k ≡ Some (f x)
nth_of f [] k x h e = absurd (omega (arith, h))
nth_of f (y ∷ ys) zero x h e = ap (λ z. Some (f z)) (sym e)
nth_of f (y ∷ ys) (suc k) x h e = nth_of f ys k x (omega (arith, h)) e
