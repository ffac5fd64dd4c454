-- Integers, character by character.
use Rattle.std.proofs.Common.{◌≡◌, ◌∙◌, ◌==◌, ◌&&◌, ◌⊎◌, inl, inr, ℕ, ◌+◌, ◌*◌, ◌-◌, ◌^◌, ◌<◌, ◌≤◌, nat_le, not, Bool, true, false, List, [], ◌∷◌, ap, refl, sym, arith, if◌then◌else◌, filter, eq-eqb}
use Rattle.std.proofs.Math.Nat.{min-eq_left, min-eq_right, min-le_right}
use Rattle.std.specs.Char.{digit_value}
use Rattle.std.specs.Str.Parse.{digits_value_after}
use Rattle.std.proofs.lemmas.Bool.{cases_Bool, and_parts, eqb-true, leb-true, leb-false, ne_eqb, false_from_ne_true, le-ltb, lt-ltb}
use Rattle.tx_text.specs.Text.{is_ascii_digit}
use Rattle.tx_tokens.specs.Pieces.{are_grouped, is_digit_to, underscore}
use Rattle.tx_tokens.specs.Calls.Walking.{capped, goes_on}

-- ---- groups of digits

-- an underscore is no digit up to 9
underscore_is_none : (last c : ℕ) → last ≤ 57 → c ≡ underscore → is_digit_to last c ≡ false
underscore_is_none last c low e = false_from_ne_true _ (λ t. absurd (omega (arith, leb-true c last (and_parts _ _ t).1)))

pub digit_on : (last : ℕ) (after : Bool) (text more : List ℕ) (c : ℕ) → text ≡ c ∷ more → is_digit_to last c ≡ true → goes_on last after text ≡ goes_on last false more
digit_on last after text more c e t = rw (e, t) refl

pub underscore_on : (last : ℕ) (text more : List ℕ) (c : ℕ) → text ≡ c ∷ more → is_digit_to last c ≡ false → c ≡ underscore → goes_on last false text ≡ goes_on last true more
underscore_on last text more c e f is = rw (e, f, eq-eqb c underscore is) refl

pub stops : (last : ℕ) (after : Bool) (text more : List ℕ) (c : ℕ) → text ≡ c ∷ more → is_digit_to last c ≡ false → ((c == underscore) && (if after then false else true)) ≡ false → goes_on last after text ≡ false
stops last true text more c e f h = rw (e, f) (by (c == underscore))
  where
    by : (b : Bool) → (b && false) ≡ false
    by true = refl
    by false = refl
stops last false text more c e f h = rw (e, f) (by (c == underscore) (goes_on last true more) h)
  where
    by : (b g : Bool) → (b && true) ≡ false → (b && g) ≡ false
    by true g e = absurd (cc)
    by false g e = refl

pub at_end : (last : ℕ) (after : Bool) (text : List ℕ) → text ≡ [] → goes_on last after text ≡ (if after then false else true)
at_end last after text e = rw e refl

pub grouped_is : (last : ℕ) → last ≤ 57 → (text : List ℕ) → are_grouped last text ≡ goes_on last false text
grouped_is last low [] = refl
grouped_is last low (c ∷ []) = elim (cases_Bool (is_digit_to last c)) [
  | inl t ↦ rw t refl
  | inr f ↦ rw f (by (c == underscore))
]
  where
    by : (b : Bool) → false ≡ (b && false)
    by true = refl
    by false = refl
grouped_is last low (c ∷ d ∷ text) = elim (cases_Bool (c == underscore)) [
  | inl is ↦ rw (underscore_is_none last c low (eqb-true c underscore is), is) (within (cases_Bool (is_digit_to last d)) (grouped_is last low text))
  | inr other ↦ rw other (digit c (cases_Bool (is_digit_to last c)) (grouped_is last low (d ∷ text)))
]
  where
    within : ((is_digit_to last d ≡ true) ⊎ (is_digit_to last d ≡ false)) → are_grouped last text ≡ goes_on last false text
        → (is_digit_to last d && are_grouped last text) ≡ goes_on last true (d ∷ text)
    within (inl t) e = rw t e
    within (inr f) e = rw f (by (d == underscore))
      where
        by : (b : Bool) → false ≡ (b && false)
        by true = refl
        by false = refl

    digit : (c : ℕ) → ((is_digit_to last c ≡ true) ⊎ (is_digit_to last c ≡ false)) → are_grouped last (d ∷ text) ≡ goes_on last false (d ∷ text)
        → (is_digit_to last c && are_grouped last (d ∷ text)) ≡ (if is_digit_to last c then goes_on last false (d ∷ text) else false)
    digit c (inl t) e = rw t e
    digit c (inr f) e = rw f refl

pub low : (last : ℕ) → ((last ≡ 48) ⊎ (last ≡ 57)) → last ≤ 57
low last (inl e) = omega arith
low last (inr e) = omega arith

module _ (last : ℕ) (after : Bool) (rest text : List ℕ) (small : last ≤ 57) (h : goes_on last after rest ≡ goes_on last false text) where
  pub grouped_end : rest ≡ [] → not after ≡ are_grouped last text
  grouped_end e = by after (at_end last after rest e) ∙ (h ∙ sym (grouped_is last small text))
    where
      by : (after : Bool) → goes_on last after rest ≡ (if after then false else true) → not after ≡ goes_on last after rest
      by true e = sym e
      by false e = sym e

  pub grouped_other : (c : ℕ) (more : List ℕ) → rest ≡ c ∷ more → is_digit_to last c ≡ false → (c ≡ 95 → ⊥) → false ≡ are_grouped last text
  grouped_other c more e f other =
      let none : ((c == underscore) && (if after then false else true)) ≡ false = rw (ne_eqb c underscore other) refl in
      sym (stops last after rest more c e f none) ∙ (h ∙ sym (grouped_is last small text))

  pub grouped_twice : (c : ℕ) (more : List ℕ) → rest ≡ c ∷ more → is_digit_to last c ≡ false → after ≡ true → false ≡ are_grouped last text
  grouped_twice c more e f twice =
      let none : ((c == underscore) && (if after then false else true)) ≡ false = rw twice (by (c == underscore)) in
      sym (stops last after rest more c e f none) ∙ (h ∙ sym (grouped_is last small text))
    where
      by : (b : Bool) → (b && false) ≡ false
      by true = refl
      by false = refl

-- ---- values

digit_is : (c : ℕ) → is_ascii_digit c ≡ true → digit_value c ≡ c - 48
digit_is c h =
    let low : 48 ≤ c = leb-true 48 c (and_parts _ _ h).0 in
    let high : c ≤ 57 = leb-true c 57 (and_parts _ _ h).1 in
    let below : c < 58 = omega arith in
    rw (le-ltb c 48 low, lt-ltb c 58 below) refl

grows : (n : ℕ) (ds : List ℕ) → n ≤ digits_value_after 10 n ds
grows n [] = omega arith
grows n (d ∷ ds) = omega (arith, grows (n * 10 + digit_value d) ds)

-- a number that is past 2^127 stays so
capped_past : (n m : ℕ) → 2 ^ 127 ≤ n → 2 ^ 127 ≤ m → capped n ≡ capped m
capped_past n m a b = min-eq_right {n = 2 ^ 127} {m = n} a ∙ sym (min-eq_right {n = 2 ^ 127} {m = m} b)

pub capped_on : (n : ℕ) (ds : List ℕ) → capped (digits_value_after 10 (capped n) ds) ≡ capped (digits_value_after 10 n ds)
capped_on n ds = elim (cases_Bool (nat_le n (2 ^ 127))) [
  | inl low ↦ ap (λ m. capped (digits_value_after 10 m ds)) (min-eq_left {n = n} {m = 2 ^ 127} (leb-true n (2 ^ 127) low))
  | inr past ↦ above (omega (arith, leb-false n (2 ^ 127) past))
]
  where
    above : 2 ^ 127 ≤ n → capped (digits_value_after 10 (capped n) ds) ≡ capped (digits_value_after 10 n ds)
    above high = ap (λ m. capped (digits_value_after 10 m ds)) (min-eq_right {n = 2 ^ 127} {m = n} high) ∙ (capped_past (digits_value_after 10 (2 ^ 127) ds) (digits_value_after 10 n ds) (grows (2 ^ 127) ds) (omega (arith, grows n ds)))

pub number_more : (n next c : ℕ) (text more : List ℕ) → text ≡ c ∷ more → is_ascii_digit c ≡ true → next ≡ capped (n * 10 + (c - 48))
    → capped (digits_value_after 10 next (filter is_ascii_digit more)) ≡ capped (digits_value_after 10 n (filter is_ascii_digit text))
number_more n next c text more e t is =
    rw (is, e, t) (capped_on (n * 10 + (c - 48)) (filter is_ascii_digit more) ∙ ap (λ d. capped (digits_value_after 10 (n * 10 + d) (filter is_ascii_digit more))) (sym (digit_is c t)))

pub number_same : (n c : ℕ) (text more : List ℕ) → text ≡ c ∷ more → is_ascii_digit c ≡ false
    → capped (digits_value_after 10 n (filter is_ascii_digit more)) ≡ capped (digits_value_after 10 n (filter is_ascii_digit text))
number_same n c text more e f = rw (e, f) refl

pub capped_low : (n next : ℕ) → next ≡ capped n → next ≤ 2 ^ 127
capped_low n next e = rw e (min-le_right n (2 ^ 127))
