-- Texts whose characters are code points.
use Rattle.std.proofs.Common.{◌≡◌, ℕ, suc, ◌+◌, ◌-◌, ◌<◌, ◌^◌, Bool, true, false, List, [], ◌∷◌, Some, None, ℤ, pos, negsuc, refl, arith}
use Rattle.std.specs.Prelude.{◌==◌, codes, if◌then◌else◌, IfSome}
use Rattle.std.specs.Fmt.{decimal, signed_decimal}
use Rattle.std.specs.List.{All, flat_map, list_all}
use Rattle.std.proofs.lemmas.Bool.Decides.{nat_tests}
use Rattle.std.proofs.lemmas.Fmt.{IsAscii-decimal_wide}
use Rattle.std.proofs.lemmas.List.Elements.{All-cons, All-from_get_or, All-weaker}
use Rattle.std.proofs.lemmas.List.Sums.{AllPass-from_list_all}
use Rattle.tx_base.specs.Width.{is_128_bit}
use Rattle.tx_text.specs.Text.{is_latin, is_lower, is_upper, lower_char, lower_of, upper_char, upper_of}
use Rattle.tx_values.specs.Valid.{is_code_point}
use Rattle.tx_methods.proofs.Characters.{All-flat_map, All-single}

abbrev pub IsPoint : ℕ → Type 0
IsPoint c = is_code_point c ≡ true

abbrev pub ArePoints : List ℕ → Type 0
ArePoints text = All IsPoint text

-- a text that stands there
pub points_of : (text : List ℕ) → list_all is_code_point text ≡ true → ArePoints text
points_of text e = AllPass-from_list_all is_code_point text e

-- ---- case

lower_point : (c : ℕ) → is_latin c ≡ true → IsPoint (lower_char c)
lower_point c h = by_test (is_upper c)
  where
    by_test : (b : Bool) → IsPoint (if b then c + 32 else c)
    by_test true = grind (arith, nat_tests)
    by_test false = grind (arith, nat_tests)

upper_points : (c : ℕ) → is_latin c ≡ true → ArePoints (upper_char c)
upper_points c h = by_tests (is_lower c) (c == 0xDF) (c == 0xFF) (c == 0xB5)
  where
    by_tests : (lower sharp long micro : Bool) → ArePoints (if lower then (c - 32) ∷ [] else if sharp then codes "SS" else if long then 0x178 ∷ [] else if micro then 0x39C ∷ [] else c ∷ [])
    by_tests true sharp long micro = All-single IsPoint (c - 32) (grind (arith, nat_tests))
    by_tests false true long micro = points_of (codes "SS") refl
    by_tests false false true micro = points_of (0x178 ∷ []) refl
    by_tests false false false true = points_of (0x39C ∷ []) refl
    by_tests false false false false = All-single IsPoint c (grind (arith, nat_tests))

module _ (text : List ℕ) where
  changed : (f : ℕ → List ℕ) → ((c : ℕ) → is_latin c ≡ true → ArePoints (f c)) → (b : Bool) → list_all is_latin text ≡ b → IfSome (if b then Some (flat_map f text) else None) ArePoints
  changed f h true e = All-flat_map IsPoint f text (All-weaker (λ c. is_latin c ≡ true) (λ c. ArePoints (f c)) h text (AllPass-from_list_all is_latin text e))
  changed f h false e = tt

  pub lower_of-points : IfSome (lower_of text) ArePoints
  lower_of-points = changed (λ c. lower_char c ∷ []) (λ c h. All-single IsPoint (lower_char c) (lower_point c h)) (list_all is_latin text) refl

  pub upper_of-points : IfSome (upper_of text) ArePoints
  upper_of-points = changed upper_char upper_points (list_all is_latin text) refl

-- ---- decimals

decimal_points : (n : ℕ) → n < 10 ^ 39 → ArePoints (decimal n)
decimal_points n h =
    let ascii = IsAscii-decimal_wide n (omega (arith, h)) in
    All-from_get_or IsPoint (decimal n) 0 (λ i l. let low = ascii i in grind (arith, nat_tests))

pub signed_points : (n : ℤ) → is_128_bit n ≡ true → ArePoints (signed_decimal n)
signed_points (pos n) e = decimal_points n (grind (arith, nat_tests))
signed_points (negsuc n) e = All-cons IsPoint 45 (decimal (suc n)) refl (decimal_points (suc n) (grind (arith, nat_tests)))
