-- The ends of a list, taken off while they pass a test, by the first element.
use Rattle.std.proofs.Common.{◌≡◌, ◌∙◌, ◌==◌, ◌&&◌, ◌+◌, ◌-◌, ◌≤◌, ◌<◌, ℕ, suc, Bool, true, false, List, [], ◌∷◌, ◌++◌, reverse, length, take, drop, refl, sym, ap, ap₂, arith, one-add, cond, if◌then◌else◌, ⊎_elim}
use Rattle.std.specs.List.{list_all, prefix_len, suffix_len}
use Rattle.std.proofs.lemmas.Bool.{cases_Bool, eqb-true, eqb-false, eq-eqb, ne_eqb}
use Rattle.std.proofs.lemmas.Grind.{reverse_onto}
use Rattle.std.proofs.lemmas.List.{length-reverse}
use Rattle.std.proofs.lemmas.List.Folds.{prefix_len-append, list_all-append}
use Rattle.std.proofs.lemmas.List.Sums.{suffix_len-le-length}
use Rattle.tx_text.specs.Text.{without_front, without_back}

same_after : (n m : ℕ) → (n == m) ≡ (suc n == suc m)
same_after n m = ⊎_elim
    (λ e. e ∙ sym (eq-eqb (suc n) (suc m) (ap suc (eqb-true n m e))))
    (λ e. e ∙ sym (ne_eqb (suc n) (suc m) (λ same. eqb-false n m e (omega arith))))
    (cases_Bool (n == m))

passes_and_all : (first rest : Bool) (n m : ℕ) → rest ≡ (n == m) → (first && rest) ≡ (cond first (1 + n) 0 == suc m)
passes_and_all true rest n m e = e ∙ (same_after n m ∙ ap (λ k. k == suc m) (sym (one-add n)))
passes_and_all false rest n m e = sym (ne_eqb 0 (suc m) (λ same. omega arith))

-- all pass where as many pass from the front as there are
all_is : (p : ℕ → Bool) (xs : List ℕ) → list_all p xs ≡ (prefix_len p xs == length xs)
all_is p [] = refl
all_is p (x ∷ xs) = passes_and_all (p x) (list_all p xs) (prefix_len p xs) (length xs) (all_is p xs)

and_swap : (a b : Bool) → (a && b) ≡ (b && a)
and_swap true true = refl
and_swap true false = refl
and_swap false true = refl
and_swap false false = refl

and_true : (b : Bool) → (b && true) ≡ b
and_true true = refl
and_true false = refl

all_reversed : (p : ℕ → Bool) (xs : List ℕ) → list_all p (reverse xs) ≡ list_all p xs
all_reversed p [] = refl
all_reversed p (x ∷ xs) =
    ap (list_all p) (reverse_onto xs x []) ∙ (list_all-append p (reverse xs) (x ∷ []) ∙ (and_swap (list_all p (reverse xs)) (p x && true)
    ∙ ap₂ (λ a b. a && b) (and_true (p x)) (all_reversed p xs)))

-- how many pass from the back, with one element more in front
back_count : (p : ℕ → Bool) (x : ℕ) (xs : List ℕ) → suffix_len p (x ∷ xs) ≡ (if list_all p xs then length xs + (if p x then 1 else 0) else suffix_len p xs)
back_count p x xs =
    let whole : suffix_len p (x ∷ xs) ≡ prefix_len p (reverse xs ++ (x ∷ [])) = ap (prefix_len p) (reverse_onto xs x []) in
    let test : (prefix_len p (reverse xs) == length (reverse xs)) ≡ list_all p xs = sym (all_is p (reverse xs)) ∙ all_reversed p xs in
    whole ∙ (prefix_len-append p (reverse xs) (x ∷ []) ∙ (λ i. cond (test i) (length-reverse xs i + (if p x then 1 else 0)) (prefix_len p (reverse xs))))

drop_or_keep : (b : Bool) (n x : ℕ) (xs : List ℕ) → drop (cond b (1 + n) 0) (x ∷ xs) ≡ (if b then drop n xs else x ∷ xs)
drop_or_keep true n x xs = ap (λ k. drop k (x ∷ xs)) (one-add n)
drop_or_keep false n x xs = refl

pub front_step : (p : ℕ → Bool) (x : ℕ) (xs : List ℕ) → without_front p (x ∷ xs) ≡ (if p x then without_front p xs else x ∷ xs)
front_step p x xs = drop_or_keep (p x) (prefix_len p xs) x xs

take_or_keep : (first all : Bool) (m n x : ℕ) (xs : List ℕ) → m ≤ n → (all ≡ true → m ≡ n) → (all ≡ false → m < n)
    → take (suc n - (if all then n + (if first then 1 else 0) else m)) (x ∷ xs) ≡ (if first && all then [] else x ∷ take (n - m) xs)
take_or_keep true true m n x xs within whole part =
    let none : suc n - (n + 1) ≡ 0 = omega arith in ap (λ k. take k (x ∷ xs)) none
take_or_keep false true m n x xs within whole part =
    let e : m ≡ n = whole refl in
    let one : suc n - (n + 0) ≡ suc 0 = omega arith in
    let none : n - m ≡ 0 = omega arith in
    ap (λ k. take k (x ∷ xs)) one ∙ ap (λ k. x ∷ take k xs) (sym none)
take_or_keep true false m n x xs within whole part =
    let e : suc n - m ≡ suc (n - m) = omega arith in ap (λ k. take k (x ∷ xs)) e
take_or_keep false false m n x xs within whole part =
    let e : suc n - m ≡ suc (n - m) = omega arith in ap (λ k. take k (x ∷ xs)) e

-- what is left of a list without such elements at its back, by its first element
pub back_step : (p : ℕ → Bool) (x : ℕ) (xs : List ℕ) → without_back p (x ∷ xs) ≡ (if p x && list_all p xs then [] else x ∷ without_back p xs)
back_step p x xs =
    let m : ℕ = suffix_len p xs in
    let test : list_all p xs ≡ (m == length xs) = sym (all_reversed p xs) ∙ (all_is p (reverse xs) ∙ ap (λ k. m == k) (length-reverse xs)) in
    ap (λ k. take (suc (length xs) - k) (x ∷ xs)) (back_count p x xs)
    ∙ take_or_keep (p x) (list_all p xs) m (length xs) x xs (suffix_len-le-length p xs)
    (λ e. eqb-true m (length xs) (sym test ∙ e))
    (λ e. let other : m ≡ length xs → ⊥ = eqb-false m (length xs) (sym test ∙ e) in omega (arith, suffix_len-le-length p xs))
