-- Names with one behind them.
use Rattle.std.proofs.Common.{◌≡◌, ℕ, suc, ◌<◌, List, [], ◌∷◌, ◌++◌, length, drop, get_or, refl, sym, ap, ◌∙◌, Bool, true, false, not, ◌&&◌, ◌||◌, if◌then◌else◌, append_assoc, drop-cons}
use Rattle.std.specs.List.{list_any}
use Rattle.std.specs.Cmp.Lexicographic.{bytes_decides}
use Rattle.std.proofs.lemmas.Bool.{true≢false}
use Rattle.tx_tree.specs.Words.{same_text}
use Rattle.tx_tree.specs.Form.{distinct}
use Rattle.tx_name_set.specs.NameSet.{is_in, add}

turned : (m n : List ℕ) → same_text m n ≡ same_text n m
turned m n = by_tests (same_text m n) (same_text n m) refl refl
  where
    same : same_text m n ≡ true → same_text n m ≡ true
    same e = (bytes_decides n m).1 (sym ((bytes_decides m n).0 e))

    back : same_text n m ≡ true → same_text m n ≡ true
    back e = (bytes_decides m n).1 (sym ((bytes_decides n m).0 e))

    by_tests : (b c : Bool) → same_text m n ≡ b → same_text n m ≡ c → b ≡ c
    by_tests true true e f = refl
    by_tests false false e f = refl
    by_tests true false e f = absurd (true≢false (sym (same e) ∙ f))
    by_tests false true e f = absurd (true≢false (sym (back f) ∙ e))

-- a name that is there already, whatever stands behind it
pub distinct_repeated : (met : List (List ℕ)) (n : List ℕ) (rest : List (List ℕ)) → is_in met n ≡ true → distinct (met ++ n ∷ rest) ≡ false
distinct_repeated [] n rest h = absurd (true≢false (sym h))
distinct_repeated (m ∷ met) n rest h = by_test (same_text n m) refl (distinct_repeated met n rest) h
  where
    there : (ms : List (List ℕ)) → same_text m n ≡ true → list_any (same_text m) (ms ++ n ∷ rest) ≡ true
    there [] e = ap (λ b. b || list_any (same_text m) rest) e
    there (k ∷ ms) e = either (same_text m k) (there ms e)
      where
        either : (b : Bool) → list_any (same_text m) (ms ++ n ∷ rest) ≡ true → (b || list_any (same_text m) (ms ++ n ∷ rest)) ≡ true
        either true f = refl
        either false f = f

    behind : (b c : Bool) → c ≡ false → (b && c) ≡ false
    behind true c e = e
    behind false c e = refl

    by_test : (b : Bool) → same_text n m ≡ b → (is_in met n ≡ true → distinct (met ++ n ∷ rest) ≡ false) → (b || is_in met n) ≡ true → distinct (m ∷ met ++ n ∷ rest) ≡ false
    by_test true e r k = ap (λ b. not b && distinct (met ++ n ∷ rest)) (there met (turned m n ∙ e))
    by_test false e r k = behind (not (list_any (same_text m) (met ++ n ∷ rest))) (distinct (met ++ n ∷ rest)) (r k)

-- a new name
pub distinct_pushed : (met : List (List ℕ)) (n : List ℕ) → is_in met n ≡ false → distinct met ≡ true → distinct (met ++ n ∷ []) ≡ true
distinct_pushed [] n h d = refl
distinct_pushed (m ∷ met) n h d = by_test (same_text n m) refl (distinct_pushed met n) h
  where
    among : (ms : List (List ℕ)) → same_text m n ≡ false → list_any (same_text m) (ms ++ n ∷ []) ≡ list_any (same_text m) ms
    among [] e = ap (λ b. b || false) e
    among (k ∷ ms) e = ap (λ c. same_text m k || c) (among ms e)

    first : (b c : Bool) → (b && c) ≡ true → b ≡ true
    first true c e = refl
    first false c e = e

    second : (b c : Bool) → (b && c) ≡ true → c ≡ true
    second true c e = e
    second false c e = absurd (true≢false (sym e))

    by_test : (b : Bool) → same_text n m ≡ b → (is_in met n ≡ false → distinct met ≡ true → distinct (met ++ n ∷ []) ≡ true) → (b || is_in met n) ≡ false → distinct (m ∷ met ++ n ∷ []) ≡ true
    by_test true e r k = absurd (true≢false k)
    by_test false e r k =
        ap (λ b. not b && distinct (met ++ n ∷ [])) (among met (turned m n ∙ e))
        ∙ ap (λ b. b && distinct (met ++ n ∷ [])) (first (not (list_any (same_text m) met)) (distinct met) d)
        ∙ r k (second (not (list_any (same_text m) met)) (distinct met) d)

-- ---- names that are met one after the other: those met, with those that are left behind them, are all

pub all_next : (met names : List (List ℕ)) (i j : ℕ) (n : List ℕ) → i < length names → n ≡ get_or names i n → j ≡ suc i
    → met ++ drop i names ≡ names → met ++ n ∷ drop j names ≡ names
all_next met names i j n h e k all =
    ap (λ xs. met ++ xs) (ap (λ m. n ∷ drop m names) k ∙ ap (λ y. y ∷ drop (suc i) names) e ∙ sym (drop-cons names i n h)) ∙ all

known : (new b : Bool) → new ≡ not b → new ≡ false → b ≡ true
known new true e f = refl
known new false e f = absurd (true≢false (sym e ∙ f))

unknown : (new b : Bool) → new ≡ not b → new ≡ true → b ≡ false
unknown new true e f = absurd (true≢false (sym f ∙ e))
unknown new false e f = refl

pub repeat_told : (met names : List (List ℕ)) (i : ℕ) (n : List ℕ) (new : Bool) → i < length names → n ≡ get_or names i n
    → met ++ drop i names ≡ names → new ≡ not (is_in met n) → new ≡ false → false ≡ distinct names
repeat_told met names i n new h e all is f =
    sym (distinct_repeated met n (drop (suc i) names) (known new (is_in met n) is f)) ∙ ap distinct (all_next met names i (suc i) n h e refl all)

-- a name that is new comes last
pushed : (met met2 : List (List ℕ)) (n : List ℕ) → met2 ≡ add met n → is_in met n ≡ false → met2 ≡ met ++ n ∷ []
pushed met met2 n added f = added ∙ ap (λ b. if b then met else met ++ n ∷ []) f

pub all_kept : (met met2 names : List (List ℕ)) (i j : ℕ) (n : List ℕ) (new : Bool) → i < length names → n ≡ get_or names i n → j ≡ suc i
    → met ++ drop i names ≡ names → met2 ≡ add met n → new ≡ not (is_in met n) → new ≡ true → met2 ++ drop j names ≡ names
all_kept met met2 names i j n new h e k all added is f =
    ap (λ xs. xs ++ drop j names) (pushed met met2 n added (unknown new (is_in met n) is f))
    ∙ append_assoc met (n ∷ []) (drop j names) ∙ all_next met names i j n h e k all

pub distinct_kept : (met met2 : List (List ℕ)) (n : List ℕ) (new : Bool) → distinct met ≡ true → met2 ≡ add met n
    → new ≡ not (is_in met n) → new ≡ true → distinct met2 ≡ true
distinct_kept met met2 n new d added is f =
    let b : is_in met n ≡ false = unknown new (is_in met n) is f in
    ap distinct (pushed met met2 n added b) ∙ distinct_pushed met n b d
