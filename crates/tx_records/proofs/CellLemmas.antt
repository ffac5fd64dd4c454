-- Cells: a numeral is what is printed of the number that it writes.
use Rattle.std.proofs.Common.{◌≡◌, ℕ, zero, suc, ◌+◌, ◌*◌, ◌/◌, ◌%◌, ◌^◌, ◌<◌, ◌≤◌, ◌==◌, ◌&&◌, ◌++◌, true, false, not, List, [], ◌∷◌, length, get_or, Option, Some, None, Result, Ok, Err, ℤ, pos, negsuc, refl, sym, ap, if◌then◌else◌, ◌∙◌, ⊎_elim, append-nil, append_assoc, arith, rules}
use Rattle.std.proofs.Math.IntN.{neg_ℤ}
use Rattle.std.specs.Char.{digit_value, is_ascii_digit}
use Rattle.std.specs.Fmt.{decimal, signed_decimal}
use Rattle.std.specs.Int.{w128}
use Rattle.std.specs.List.{list_all}
use Rattle.std.specs.Option.{option_and_then}
use Rattle.std.specs.Prelude.{FitsSigned, MatchOption, codes, encode_utf8_all}
use Rattle.std.specs.Result.{result_ok}
use Rattle.std.specs.Str.{IsAscii, IsUtf8, all_ascii_digits, bytes_eq, chars, is_utf8}
use Rattle.std.specs.Str.Parse.{AllDigits, IsNumeral, ParsesSigned, digits_value, digits_value_after, signed_digits_value, without_leading_sign}
use Rattle.std.proofs.lemmas.Bool.{and_parts, cases_Bool, cond_both, false_from_ne_true, lt-ltb, eqb-false, eqb-true, ltb-true, ne_eqb, not-true, or_cases}
use Rattle.std.proofs.lemmas.Fmt.{IsAscii-from_digits, decimal_digit, decimal_step_wide}
use Rattle.std.proofs.lemmas.List.Recursion.{same_from_clauses}
use Rattle.std.proofs.lemmas.Slice.Eq.{bytes_eq-Decides}
use Rattle.std.proofs.lemmas.Str.{IsUtf8-from_ascii, IsUtf8-from_is_utf8, chars-IsAscii, digit_value_digit, encodes-chars, is_utf8-from_IsUtf8}
use Rattle.std.proofs.lemmas.Str.Ascii.{IsAscii-nil}
use Rattle.std.proofs.lemmas.Str.Parse.{IsNumeralModel, digit_from_value, numerals_by_value, tells_all_ascii_digits}
use Rattle.tx_base.specs.Width.{is_128_bit}
use Rattle.tx_values.specs.declared.value.Value.{Value, Nil, Truth, Int, Text}
use Rattle.tx_values.specs.declared.value.Value.TheVariants.{outs-Nil, outs-Truth, outs-Int, outs-Text}
use Rattle.tx_records.specs.Cell.{is_null, is_numeral, is_positive, number_or_text, print, read, value_of, without_minus}
use Rattle.tx_records.specs.Laws.{CellLaw}

-- ---- digits

all_digits_is : (ds : List ℕ) → all_ascii_digits ds ≡ list_all is_ascii_digit ds
all_digits_is = same_from_clauses all_ascii_digits (list_all is_ascii_digit) (λ d b. is_ascii_digit d && b) refl (λ _ _. refl) (λ _ _. refl)

pub is_positive_is : (ds : List ℕ) → 0 < length ds → (get_or ds 0 0 ≡ 48 → ⊥) → is_positive ds ≡ list_all is_ascii_digit ds
is_positive_is [] some other = absurd (omega arith)
is_positive_is (d ∷ ds) some other = rw (ne_eqb d 48 other) (all_digits_is (d ∷ ds))

model : IsNumeralModel (λ ds. all_ascii_digits ds ≡ true) (digits_value 10)
model = numerals_by_value _ tells_all_ascii_digits

record StartsNumber (d : ℕ) (ds : List ℕ) : Type 0 where
  first : digit_value d < 10
  code : digit_value d + 48 ≡ d
  some : 0 < digit_value d
  rest : AllDigits 10 ds

starts : (d : ℕ) (ds : List ℕ) → is_positive (d ∷ ds) ≡ true → StartsNumber d ds
starts d ds e =
    let parts = and_parts (not (d == 48)) (all_ascii_digits (d ∷ ds)) e in
    let digits : AllDigits 10 (d ∷ ds) = model.to (d ∷ ds) parts.1 in
    let code : digit_value d + 48 ≡ d = digit_value_digit d (digit_from_value d digits.0) in
    let other : d ≡ 48 → ⊥ = eqb-false d 48 (not-true (d == 48) parts.0) in
    record { first = digits.0; code = code; some = omega arith; rest = digits.1 }

-- ---- the decimal text of a value

grows : (n : ℕ) (ds : List ℕ) → n ≤ digits_value_after 10 n ds
grows n [] = omega arith
grows n (d ∷ ds) = omega (arith, grows (n * 10 + digit_value d) ds)

written_on : (n : ℕ) (ds : List ℕ) → 0 < n → AllDigits 10 ds → digits_value_after 10 n ds < 10 ^ 64 → decimal (digits_value_after 10 n ds) ≡ decimal n ++ ds
written_on n [] some digits small = sym (append-nil (decimal n))
written_on n (d ∷ ds) some digits small =
    let m : ℕ = n * 10 + digit_value d in
    let code : digit_value d + 48 ≡ d = digit_value_digit d (digit_from_value d digits.0) in
    let below : digit_value d < 10 = digits.0 in
    let front : m / 10 ≡ n = omega arith in
    let last : 48 + m % 10 ≡ d = omega arith in
    let within : m < 10 ^ 64 = omega (arith, grows m ds) in
    let step : decimal m ≡ decimal n ++ (d ∷ []) = decimal_step_wide m (omega arith) within ∙ (λ i. decimal (front i) ++ (last i ∷ [])) in
    written_on m ds (omega arith) digits.1 small ∙ ap (λ x. x ++ ds) step ∙ append_assoc (decimal n) (d ∷ []) ds

decimal_back : (ds : List ℕ) → is_positive ds ≡ true → digits_value 10 ds < 10 ^ 64 → decimal (digits_value 10 ds) ≡ ds
decimal_back [] e small = cc
decimal_back (d ∷ ds) e small =
    let s = starts d ds e in
    let n : ℕ = 0 * 10 + digit_value d in
    let below : n < 10 = omega (arith, s.first) in
    let is : 48 + n ≡ d = omega (arith, s.code) in
    written_on n ds (omega (arith, s.some)) s.rest small ∙ ap (λ x. x ++ ds) (decimal_digit n below ∙ ap (λ c. c ∷ []) is)

not_zero : (ds : List ℕ) → is_positive ds ≡ true → 0 < digits_value 10 ds
not_zero [] e = cc
not_zero (d ∷ ds) e = let s = starts d ds e in omega (arith, s.some, grows (0 * 10 + digit_value d) ds)

-- ---- signs

value_negative : (c : ℕ) (cs : List ℕ) → (c == 45) ≡ true → signed_digits_value 10 (c ∷ cs) ≡ neg_ℤ (pos (digits_value 10 cs))
value_negative c cs e = rw e refl

no_plus : (c : ℕ) (cs : List ℕ) → is_positive (c ∷ cs) ≡ true → (c == 43) ≡ false
no_plus c cs p = let s = starts c cs p in ne_eqb c 43 (λ same. omega (arith, s.code))

no_sign : (c : ℕ) (cs : List ℕ) → (c == 45) ≡ false → is_positive (c ∷ cs) ≡ true → without_leading_sign (c ∷ cs) ≡ c ∷ cs
no_sign c cs e p = rw (e, no_plus c cs p) refl

value_positive : (c : ℕ) (cs : List ℕ) → (c == 45) ≡ false → is_positive (c ∷ cs) ≡ true → signed_digits_value 10 (c ∷ cs) ≡ pos (digits_value 10 (c ∷ cs))
value_positive c cs e p = rw (e, no_plus c cs p) refl

negative_back : (v : ℕ) (cs : List ℕ) → 0 < v → is_128_bit (neg_ℤ (pos v)) ≡ true → (v < 10 ^ 64 → decimal v ≡ cs) → signed_decimal (neg_ℤ (pos v)) ≡ 45 ∷ cs
negative_back zero cs some fits back = absurd (omega arith)
negative_back (suc k) cs some fits back = ap (λ ds. 45 ∷ ds) (back (omega (arith, ltb-true k (2 ^ 127) fits)))

positive_back : (v : ℕ) (cs : List ℕ) → is_128_bit (pos v) ≡ true → (v < 10 ^ 64 → decimal v ≡ cs) → signed_decimal (pos v) ≡ cs
positive_back v cs fits back = back (omega (arith, ltb-true v (2 ^ 127) fits))

-- a numeral within 128 bits is printed as it was read
number_back : (field : List ℕ) → is_numeral field ≡ true → is_128_bit (signed_digits_value 10 field) ≡ true → signed_decimal (signed_digits_value 10 field) ≡ field
number_back field numeral fits = ⊎_elim zero_back (signed_back field fits) (or_cases (bytes_eq field (codes "0")) (is_positive (without_minus field)) numeral)
  where
    zero_back : bytes_eq field (codes "0") ≡ true → signed_decimal (signed_digits_value 10 field) ≡ field
    zero_back e = rw ((bytes_eq-Decides field (codes "0")).0 e) (decimal_digit 0 (omega arith))

    signed_back : (field : List ℕ) → is_128_bit (signed_digits_value 10 field) ≡ true → is_positive (without_minus field) ≡ true → signed_decimal (signed_digits_value 10 field) ≡ field
    signed_back [] fits p = cc
    signed_back (c ∷ cs) fits p = ⊎_elim
        (λ e. let q : is_positive cs ≡ true = rw e at p in
        let is = value_negative c cs e in
        rw is (negative_back (digits_value 10 cs) cs (not_zero cs q) (rw is at fits) (decimal_back cs q) ∙ ap (λ x. x ∷ cs) (sym (eqb-true c 45 e))))
        (λ e. let q : is_positive (c ∷ cs) ≡ true = rw e at p in
        let is = value_positive c cs e q in
        rw is (positive_back (digits_value 10 (c ∷ cs)) (c ∷ cs) (rw is at fits) (decimal_back (c ∷ cs) q)))
        (cases_Bool (c == 45))

-- ---- std's parse of a numeral

positive_digits : (ds : List ℕ) → is_positive ds ≡ true → IsNumeral 10 ds
positive_digits [] p = cc
positive_digits (d ∷ ds) p = (omega arith, model.to (d ∷ ds) (and_parts (not (d == 48)) (all_ascii_digits (d ∷ ds)) p).1)

signed_digits : (field : List ℕ) → is_positive (without_minus field) ≡ true → IsNumeral 10 (without_leading_sign field)
signed_digits [] p = cc
signed_digits (c ∷ cs) p = ⊎_elim
    (λ e. rw e (positive_digits cs (rw e at p)))
    (λ e. let q : is_positive (c ∷ cs) ≡ true = rw e at p in rw (no_sign c cs e q) (positive_digits (c ∷ cs) q))
    (cases_Bool (c == 45))

numeral_digits : (field : List ℕ) → is_numeral field ≡ true → IsNumeral 10 (without_leading_sign field)
numeral_digits field numeral = ⊎_elim
    (λ e. rw ((bytes_eq-Decides field (codes "0")).0 e) (search rules))
    (signed_digits field)
    (or_cases (bytes_eq field (codes "0")) (is_positive (without_minus field)) numeral)

minus_ascii : (cs : List ℕ) → IsAscii cs → IsAscii (45 ∷ cs)
minus_ascii cs ascii zero = omega arith
minus_ascii cs ascii (suc i) = ascii i

signed_ascii : (field : List ℕ) → is_positive (without_minus field) ≡ true → IsAscii field
signed_ascii [] p = cc
signed_ascii (c ∷ cs) p = ⊎_elim
    (λ e. let q : is_positive cs ≡ true = rw e at p in
    rw (eqb-true c 45 e) (minus_ascii cs (IsAscii-from_digits cs (positive_digits cs q).1)))
    (λ e. let q : is_positive (c ∷ cs) ≡ true = rw e at p in
    IsAscii-from_digits (c ∷ cs) (positive_digits (c ∷ cs) q).1)
    (cases_Bool (c == 45))

numeral_ascii : (field : List ℕ) → is_numeral field ≡ true → IsAscii field
numeral_ascii field numeral = ⊎_elim
    (λ e. rw ((bytes_eq-Decides field (codes "0")).0 e) (IsAscii-from_digits (codes "0") (search rules)))
    (signed_ascii field)
    (or_cases (bytes_eq field (codes "0")) (is_positive (without_minus field)) numeral)

numeral_utf8 : (field : List ℕ) → is_numeral field ≡ true → IsUtf8 field
numeral_utf8 field numeral = IsUtf8-from_ascii field (numeral_ascii field numeral)

fits_from : (n : ℤ) → is_128_bit n ≡ true → FitsSigned w128 n
fits_from (pos n) e = record { sfits = ltb-true n (2 ^ 127) e }
fits_from (negsuc n) e = record { sfits = ltb-true n (2 ^ 127) e }

fits_is : (n : ℤ) → FitsSigned w128 n → is_128_bit n ≡ true
fits_is (pos n) fits = lt-ltb n (2 ^ 127) fits.sfits
fits_is (negsuc n) fits = lt-ltb n (2 ^ 127) fits.sfits

numeral_parsed : {E : Type 0} (field : List ℕ) (r : Result ℤ E) → is_numeral field ≡ true → ParsesSigned w128 10 field r
    → MatchOption (result_ok r) (number_or_text field ≡ Text (chars field)) (λ n. number_or_text field ≡ Int n)
numeral_parsed field (Ok n) numeral parsed = rw (numeral, fits_is (signed_digits_value 10 field) parsed.0.1) (ap Int (sym parsed.1))
numeral_parsed field (Err e) numeral parsed =
    let wide : is_128_bit (signed_digits_value 10 field) ≡ false = false_from_ne_true _ (λ fits. parsed (numeral_digits field numeral, fits_from _ fits)) in
    rw (numeral, wide) refl

pub integer_parsed : {E : Type 0} (field text : List ℕ) (r : Result ℤ E) (o : Option ℤ) → is_numeral field ≡ true → text ≡ field → ParsesSigned w128 10 text r → o ≡ result_ok r
    → MatchOption o (number_or_text field ≡ Text (chars field)) (λ n. number_or_text field ≡ Int n)
integer_parsed field text r o numeral same parsed is = rw is (numeral_parsed field r numeral (rw same at parsed))

-- ---- the law

-- ASCII is its own UTF-8
pub ascii_encoded : (bs : List ℕ) → IsAscii bs → encode_utf8_all bs ≡ bs
ascii_encoded bs ascii = ap encode_utf8_all (sym (chars-IsAscii bs ascii)) ∙ encodes-chars bs (IsUtf8-from_ascii bs ascii)

ascii_more : (c : ℕ) (cs : List ℕ) → c < 128 → IsAscii cs → IsAscii (c ∷ cs)
ascii_more c cs low ascii zero = low
ascii_more c cs low ascii (suc i) = ascii i

true_ascii : IsAscii (codes "True")
true_ascii = ascii_more 84 (114 ∷ 117 ∷ 101 ∷ []) (omega arith) (ascii_more 114 (117 ∷ 101 ∷ []) (omega arith) (ascii_more 117 (101 ∷ []) (omega arith) (ascii_more 101 [] (omega arith) IsAscii-nil)))

false_ascii : IsAscii (codes "False")
false_ascii = ascii_more 70 (97 ∷ 108 ∷ 115 ∷ 101 ∷ []) (omega arith) (ascii_more 97 (108 ∷ 115 ∷ 101 ∷ []) (omega arith) (ascii_more 108 (115 ∷ 101 ∷ []) (omega arith) (ascii_more 115 (101 ∷ []) (omega arith) (ascii_more 101 [] (omega arith) IsAscii-nil))))

pub true_text : chars (codes "True") ≡ codes "True"
true_text = chars-IsAscii (codes "True") true_ascii

pub false_text : chars (codes "False") ≡ codes "False"
false_text = chars-IsAscii (codes "False") false_ascii

pub not_utf8 : (field : List ℕ) → (IsUtf8 field → ⊥) → is_utf8 field ≡ false
not_utf8 field refuted = false_from_ne_true (is_utf8 field) (λ t. refuted (IsUtf8-from_is_utf8 field t))

pub read_none : (words : List (List ℕ)) (field : List ℕ) → (IsUtf8 field → ⊥) → read words field ≡ None
read_none words field refuted = rw (not_utf8 field refuted) refl

pub read_some : (words given : List (List ℕ)) (field text : List ℕ) (v : Value) → IsUtf8 field → text ≡ field → given ≡ words → v ≡ value_of given text → read words field ≡ Some v
read_some words given field text v utf8 e h k =
    let is : v ≡ value_of words field = k ∙ (ap (λ w. value_of w text) h ∙ ap (value_of words) e) in
    rw (is_utf8-from_IsUtf8 field utf8) (ap Some (sym is))

-- a value that is printed as this field
record PrintsAs (a : Value) (field : List ℕ) : Type 0 where
  prints : print a ≡ Some field

nil_prints : PrintsAs Nil []
nil_prints = record { prints = rw outs-Nil refl }

true_prints : PrintsAs (Truth true) (codes "True")
true_prints = record { prints = rw (outs-Truth true) (ap Some (ascii_encoded (codes "True") true_ascii)) }

false_prints : PrintsAs (Truth false) (codes "False")
false_prints = record { prints = rw (outs-Truth false) (ap Some (ascii_encoded (codes "False") false_ascii)) }

int_prints : (n : ℤ) (field : List ℕ) → IsAscii field → signed_decimal n ≡ field → PrintsAs (Int n) field
int_prints n field ascii e = record { prints = rw (outs-Int n) (ap (λ t. Some (encode_utf8_all t)) e ∙ ap Some (ascii_encoded field ascii)) }

text_prints : (field : List ℕ) → is_utf8 field ≡ true → PrintsAs (Text (chars field)) field
text_prints field utf8 = record { prints = rw (outs-Text (chars field)) (ap Some (encodes-chars field (IsUtf8-from_is_utf8 field utf8))) }

number_prints : (field : List ℕ) → is_utf8 field ≡ true → PrintsAs (number_or_text field) field
number_prints field utf8 =
    let n : ℤ = signed_digits_value 10 field in
    cond_both (is_numeral field && is_128_bit n) (Int n) (Text (chars field)) (λ a. PrintsAs a field)
    (λ e. let both = and_parts (is_numeral field) (is_128_bit n) e in int_prints n field (numeral_ascii field both.0) (number_back field both.0 both.1))
    (λ e. text_prints field utf8)

word_or_else : (field word : List ℕ) (a b : Value) → PrintsAs a word → PrintsAs b field → PrintsAs (if bytes_eq field word then a else b) field
word_or_else field word a b prints rest =
    cond_both (bytes_eq field word) a b (λ x. PrintsAs x field) (λ e. record { prints = prints.prints ∙ ap Some (sym ((bytes_eq-Decides field word).0 e)) }) (λ e. rest)

behind_null : (field : List ℕ) → is_utf8 field ≡ true
    → PrintsAs (if bytes_eq field (codes "True") then Truth true else if bytes_eq field (codes "False") then Truth false else number_or_text field) field
behind_null field utf8 =
    word_or_else field (codes "True") (Truth true) _ true_prints (
    word_or_else field (codes "False") (Truth false) _ false_prints (number_prints field utf8))

read_is : (words : List (List ℕ)) (field : List ℕ) → is_utf8 field ≡ true → option_and_then print (read words field) ≡ print (value_of words field)
read_is words field utf8 = rw utf8 refl

other_back : (words : List (List ℕ)) (field : List ℕ) → is_utf8 field ≡ true → is_null words field ≡ false → option_and_then print (read words field) ≡ Some field
other_back words field utf8 e = read_is words field utf8 ∙ rw e ((behind_null field utf8).prints)

null_back : (words : List (List ℕ)) (field : List ℕ) → is_utf8 field ≡ true → is_null words field ≡ true → option_and_then print (read words field) ≡ Some []
null_back words field utf8 e = read_is words field utf8 ∙ rw e (nil_prints.prints)

plain_back : (field : List ℕ) → is_utf8 field ≡ true → option_and_then print (read [] field) ≡ Some field
plain_back field utf8 = ⊎_elim
    (λ e. let empty : bytes_eq field [] ≡ true = ⊎_elim (λ q. q) (λ q. cc q) (or_cases (bytes_eq field []) false e) in
    null_back [] field utf8 e ∙ ap Some (sym ((bytes_eq-Decides field []).0 empty)))
    (λ e. other_back [] field utf8 e)
    (cases_Bool (is_null [] field))

pub cell_law : CellLaw
cell_law = record { plain = plain_back; other = other_back; null = null_back }
