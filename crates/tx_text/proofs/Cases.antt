-- Capitals, small letters and digits.
use Rattle.std.proofs.Common.{◌≡◌, ◌≢◌, ◌∙◌, ◌&&◌, ◌==◌, ℕ, Bool, true, false, not, List, [], ◌∷◌, Some, sym, refl, ap, IsUtf8, length, eqb-true, eq-eqb, true≢false, ◌++◌, ◌<◌, IsAscii, ap₂, arith, flat_map, map}
use Rattle.std.specs.List.{list_all, list_any}
use Rattle.std.specs.Str.{chars}
use Rattle.std.specs.Char.{to_ascii_lowercase, to_ascii_uppercase}
use Rattle.std.proofs.lemmas.Bool.Decides.{nat_tests}
use Rattle.std.proofs.lemmas.Str.{chars-IsAscii, IsAscii-drop}
use Rattle.std.proofs.lemmas.Str.Ascii.{IsAscii-map}
use Rattle.std.specs.Prelude.{encode_utf8_all}
use Rattle.std.proofs.lemmas.List.{nil_from_length}
use Rattle.std.proofs.lemmas.Str.{encodes-chars, chars-nil}
use Rattle.tx_text.specs.Text.{is_ascii, is_ascii_digit, digits_of, is_latin, lower_char, lower_of, upper_char, upper_of}

-- the capitals of ß
pub sharp_s : (c : ℕ) → c ≡ 0xDF → chars (83 ∷ 83 ∷ []) ≡ upper_char c
unfolding chars
sharp_s c e = rw e refl

-- a character of ASCII that is no digit
abbrev pub is_other : ℕ → Bool
is_other d = is_ascii d && not (is_ascii_digit d)

-- a text is empty where its characters are
pub spells_nothing : (bs : List ℕ) → (length bs == 0) ≡ true → chars bs ≡ []
spells_nothing bs e = ap chars (nil_from_length bs (eqb-true (length bs) 0 e)) ∙ chars-nil

pub spells_something : (bs : List ℕ) → IsUtf8 bs → (length bs == 0) ≡ false → chars bs ≢ []
spells_something bs u e n =
    let none : bs ≡ [] = sym (encodes-chars bs u) ∙ ap encode_utf8_all n in
    true≢false (sym (eq-eqb (length bs) 0 (ap length none)) ∙ e)

pub digits_none : (cs : List ℕ) → cs ≡ [] → Some false ≡ digits_of cs
digits_none cs e = rw e refl

pub digits_other : (cs : List ℕ) → list_any is_other cs ≡ true → Some false ≡ digits_of cs
digits_other [] a = refl
digits_other (c ∷ cs) a = rw a refl

pub digits_only : (cs : List ℕ) → cs ≢ [] → list_any is_other cs ≡ false → list_all is_ascii_digit cs ≡ true → Some true ≡ digits_of cs
digits_only [] n a d = absurd (n refl)
digits_only (c ∷ cs) n a d = rw (a, d) refl

-- ---- texts of ASCII

small_char : (c : ℕ) → c < 128 → to_ascii_lowercase c ≡ lower_char c
small_char c h = grind (arith, nat_tests)

capital_char : (c : ℕ) → c < 128 → to_ascii_uppercase c ∷ [] ≡ upper_char c
capital_char c h = grind (arith, nat_tests)

small_low : (c : ℕ) → c < 128 → to_ascii_lowercase c < 128
small_low c h = grind (arith, nat_tests)

capital_low : (c : ℕ) → c < 128 → to_ascii_uppercase c < 128
capital_low c h = grind (arith, nat_tests)

small_bytes : (bs : List ℕ) → IsAscii bs → map to_ascii_lowercase bs ≡ flat_map (λ c. lower_char c ∷ []) bs
small_bytes [] a = refl
small_bytes (c ∷ cs) a = ap₂ (λ (d : ℕ) (ds : List ℕ). d ∷ ds) (small_char c (a 0)) (small_bytes cs (IsAscii-drop (c ∷ cs) 1 a))

capital_bytes : (bs : List ℕ) → IsAscii bs → map to_ascii_uppercase bs ≡ flat_map upper_char bs
capital_bytes [] a = refl
capital_bytes (c ∷ cs) a = ap₂ (λ (s t : List ℕ). s ++ t) (capital_char c (a 0)) (capital_bytes cs (IsAscii-drop (c ∷ cs) 1 a))

pub small_text : (bs made : List ℕ) → IsAscii bs → made ≡ map to_ascii_lowercase bs → chars made ≡ flat_map (λ c. lower_char c ∷ []) (chars bs)
small_text bs made a e =
    ap chars e
    ∙ (chars-IsAscii (map to_ascii_lowercase bs) (IsAscii-map to_ascii_lowercase bs small_low a)
    ∙ (small_bytes bs a ∙ ap (λ (cs : List ℕ). flat_map (λ c. lower_char c ∷ []) cs) (sym (chars-IsAscii bs a))))

pub capital_text : (bs made : List ℕ) → IsAscii bs → made ≡ map to_ascii_uppercase bs → chars made ≡ flat_map upper_char (chars bs)
capital_text bs made a e =
    ap chars e
    ∙ (chars-IsAscii (map to_ascii_uppercase bs) (IsAscii-map to_ascii_uppercase bs capital_low a)
    ∙ (capital_bytes bs a ∙ ap (λ (cs : List ℕ). flat_map upper_char cs) (sym (chars-IsAscii bs a))))

latin_char : (c : ℕ) → c < 128 → is_latin c ≡ true
latin_char c h = grind (arith, nat_tests)

latin_bytes : (bs : List ℕ) → IsAscii bs → list_all is_latin bs ≡ true
latin_bytes [] a = refl
latin_bytes (c ∷ cs) a = ap₂ (λ (p q : Bool). p && q) (latin_char c (a 0)) (latin_bytes cs (IsAscii-drop (c ∷ cs) 1 a))

latin_text : (bs : List ℕ) → IsAscii bs → list_all is_latin (chars bs) ≡ true
latin_text bs a = ap (λ (cs : List ℕ). list_all is_latin cs) (chars-IsAscii bs a) ∙ latin_bytes bs a

pub lower_ascii : (bs ds text made : List ℕ) → IsAscii bs → chars bs ≡ text → chars ds ≡ text → made ≡ flat_map (λ c. lower_char c ∷ []) (chars ds) → Some made ≡ lower_of text
lower_ascii bs ds text made a e f m =
    let l : list_all is_latin text ≡ true = ap (λ (cs : List ℕ). list_all is_latin cs) (sym e) ∙ latin_text bs a in
    rw (l, m, f) refl

pub upper_ascii : (bs ds text made : List ℕ) → IsAscii bs → chars bs ≡ text → chars ds ≡ text → made ≡ flat_map upper_char (chars ds) → Some made ≡ upper_of text
upper_ascii bs ds text made a e f m =
    let l : list_all is_latin text ≡ true = ap (λ (cs : List ℕ). list_all is_latin cs) (sym e) ∙ latin_text bs a in
    rw (l, m, f) refl
