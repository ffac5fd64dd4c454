-- Plain integers, a sign and digits, are read: those that are printed, and those that std reads.
use Rattle.std.proofs.Common.{ℤ, Result, Ok, Err, IfOk, ◌⊎◌, inl, inr, ◌≡◌, ◌∙◌, ◌==◌, ◌&&◌, ◌^◌, ◌<◌, ℕ, zero, suc, Bool, true, false, List, [], ◌∷◌, refl, sym, ap, arith, if◌then◌else◌, filter, pos, negsuc}
use Rattle.std.specs.Char.{digit_value}
use Rattle.std.specs.Fmt.{decimal, signed_decimal}
use Rattle.std.specs.List.{list_all, list_any}
use Rattle.std.specs.Int.{w64}
use Rattle.std.specs.Prelude.{neg_ℤ, FitsSigned}
use Rattle.std.specs.Str.{IsAscii, chars}
use Rattle.std.specs.Str.Parse.{AllDigits, IsNumeral, ParsesSigned, digits_value, signed_digits_value, without_leading_sign}
use Rattle.std.proofs.lemmas.Bool.{true≢false, agree_below_at, and_from, false_from_ne_true, le-leb, or_from, lt-ltb, ltb-true, ne_eqb, eqb-true, cases_Bool}
use Rattle.std.proofs.lemmas.Fmt.{IsAscii-from_digits, decimal_is_IsNumeral_wide}
use Rattle.std.proofs.lemmas.Str.{chars-IsAscii}
use Rattle.std.proofs.lemmas.Str.Parse.{digit_from_value}
use Rattle.tx_text.specs.Text.{is_ascii_digit, is_blank, stripped, without_back}
use Rattle.tx_text.specs.declared.strip.Side.TheVariants.{Both}
use Rattle.tx_num.specs.Calls.Reading.{goes_on}
use Rattle.tx_num.proofs.Groups.{number_goes_on}
use Rattle.tx_num.specs.ReadInt.{is_number, is_outside, read_digits, read_int, read_signed, value_read, with_sign}
use Rattle.tx_num.specs.Laws.{PrintedLaw}
use Rattle.tx_num.specs.declared.read.IntRead.TheVariants.{Value, NotInt, Past, OutOfProfile}
use Rattle.tx_num.proofs.Ends.{back_step}
use Rattle.tx_num.proofs.ByCharacter.{digit_blank, digit_is_low, kept_first}

-- ---- digits

digit_is : (d : ℕ) → digit_value d < 10 → is_ascii_digit d ≡ true
digit_is d below = let range = digit_from_value d below in and_from _ _ (le-leb 48 d range.0) (le-leb d 57 range.1)

digit_within : (d : ℕ) → is_ascii_digit d ≡ true → is_outside d ≡ false
digit_within d digit =
    let none : (is_ascii_digit d && is_outside d) ≡ false = agree_below_at (λ c. is_ascii_digit c && is_outside c) (λ c. false) 128 d refl (digit_is_low d digit) in
    false_from_ne_true _ (λ out. true≢false (sym (and_from _ _ digit out) ∙ none))

within : (ds : List ℕ) → AllDigits 10 ds → list_any is_outside ds ≡ false
within [] digits = refl
within (d ∷ ds) digits = or_from (is_outside d) (list_any is_outside ds) (digit_within d (digit_is d digits.0)) (within ds digits.1)

back_kept : (ds : List ℕ) → AllDigits 10 ds → without_back is_blank ds ≡ ds
back_kept [] digits = refl
back_kept (d ∷ ds) digits =
    back_step is_blank d ds ∙ (ap (λ b. if b && list_all is_blank ds then [] else d ∷ without_back is_blank ds) (digit_blank d (digit_is d digits.0))
    ∙ ap (λ t. d ∷ t) (back_kept ds digits.1))

all_numbers : (ds : List ℕ) → AllDigits 10 ds → goes_on true ds ≡ true
all_numbers [] digits = refl
all_numbers (d ∷ ds) digits = rw (digit_is d digits.0) (all_numbers ds digits.1)

filter_kept : (ds : List ℕ) → AllDigits 10 ds → filter is_ascii_digit ds ≡ ds
filter_kept [] digits = refl
filter_kept (d ∷ ds) digits = rw (digit_is d digits.0) (ap (λ t. d ∷ t) (filter_kept ds digits.1))

digits_read : (negative : Bool) (ds : List ℕ) → IsNumeral 10 ds → read_digits negative ds ≡ value_read (with_sign negative (digits_value 10 ds))
digits_read negative [] numeral = absurd (omega (arith, numeral.0))
digits_read negative (d ∷ ds) numeral =
    let number : is_number (d ∷ ds) ≡ true = number_goes_on (d ∷ ds) ∙ rw (digit_is d numeral.1.0) (all_numbers ds numeral.1.1) in
    ap (λ b. if b then value_read (with_sign negative (digits_value 10 (filter is_ascii_digit (d ∷ ds)))) else NotInt) number
    ∙ ap (λ t. value_read (with_sign negative (digits_value 10 t))) (filter_kept (d ∷ ds) numeral.1)

-- ---- both signs

positive_read : (ds : List ℕ) → IsNumeral 10 ds → read_int ds ≡ value_read (pos (digits_value 10 ds))
positive_read [] numeral = absurd (omega (arith, numeral.0))
positive_read (d ∷ ds) numeral =
    let digit : is_ascii_digit d ≡ true = digit_is d numeral.1.0 in
    let range = digit_from_value d numeral.1.0 in
    let kept : stripped Both is_blank (d ∷ ds) ≡ d ∷ ds = kept_first d ds (digit_blank d digit) ∙ ap (λ t. d ∷ t) (back_kept ds numeral.1.1) in
    let minus : (d == 45) ≡ false = ne_eqb d 45 (λ e. omega (arith, range.0)) in
    let plus : (d == 43) ≡ false = ne_eqb d 43 (λ e. omega (arith, range.0)) in
    let signed : read_signed (d ∷ ds) ≡ read_digits false (d ∷ ds) = rw (minus, plus) refl in
    ap (λ b. if b then OutOfProfile else read_signed (stripped Both is_blank (d ∷ ds))) (within (d ∷ ds) numeral.1)
    ∙ (ap read_signed kept ∙ (signed ∙ digits_read false (d ∷ ds) numeral))

negative_read : (ds : List ℕ) → IsNumeral 10 ds → read_int (45 ∷ ds) ≡ value_read (neg_ℤ (pos (digits_value 10 ds)))
negative_read ds numeral =
    let kept : stripped Both is_blank (45 ∷ ds) ≡ 45 ∷ ds = kept_first 45 ds refl ∙ ap (λ t. 45 ∷ t) (back_kept ds numeral.1) in
    ap (λ b. if b then OutOfProfile else read_signed (stripped Both is_blank (45 ∷ ds))) (within ds numeral.1)
    ∙ (ap read_signed kept ∙ digits_read true ds numeral)

plus_read : (ds : List ℕ) → IsNumeral 10 ds → read_int (43 ∷ ds) ≡ value_read (pos (digits_value 10 ds))
plus_read ds numeral =
    let kept : stripped Both is_blank (43 ∷ ds) ≡ 43 ∷ ds = kept_first 43 ds refl ∙ ap (λ t. 43 ∷ t) (back_kept ds numeral.1) in
    ap (λ b. if b then OutOfProfile else read_signed (stripped Both is_blank (43 ∷ ds))) (within ds numeral.1)
    ∙ (ap read_signed kept ∙ digits_read false ds numeral)

-- ---- printed integers

pub printed_law : PrintedLaw
printed_law (pos n) fits =
    let numeral = decimal_is_IsNumeral_wide n (omega (arith, ltb-true n (2 ^ 127) fits)) in
    positive_read (decimal n) numeral.0 ∙ (ap (λ m. value_read (pos m)) numeral.1 ∙ ap (λ b. if b then Value (pos n) else Past) fits)
printed_law (negsuc n) fits =
    let numeral = decimal_is_IsNumeral_wide (suc n) (omega (arith, ltb-true n (2 ^ 127) fits)) in
    negative_read (decimal (suc n)) numeral.0 ∙ (ap (λ m. value_read (neg_ℤ (pos m))) numeral.1 ∙ ap (λ b. if b then Value (negsuc n) else Past) fits)

pub printed_text : {E : Type 0} (r : Result (List ℕ) E) (text : List ℕ) (n : ℤ) → text ≡ signed_decimal n → IsAscii text → IfOk r (λ t. t ≡ chars text) → IfOk r (λ t. t ≡ signed_decimal n)
printed_text (Ok t) text n is ascii made = made ∙ (chars-IsAscii text ascii ∙ is)
printed_text (Err e) text n is ascii made = tt

-- ---- what std reads

ascii_more : (c : ℕ) (cs : List ℕ) → c < 128 → IsAscii cs → IsAscii (c ∷ cs)
ascii_more c cs low ascii zero = low
ascii_more c cs low ascii (suc i) = ascii i

value_is : (n : ℤ) → FitsSigned w64 n → Value n ≡ value_read n
value_is (pos n) fits = ap (λ b. if b then Value (pos n) else Past) (sym (lt-ltb n (2 ^ 127) (omega (arith, fits.sfits))))
value_is (negsuc n) fits = ap (λ b. if b then Value (negsuc n) else Past) (sym (lt-ltb n (2 ^ 127) (omega (arith, fits.sfits))))

record IsPlain (bs : List ℕ) : Type 0 where
  ascii : IsAscii bs
  read : value_read (signed_digits_value 10 bs) ≡ read_int bs

plain : (bs : List ℕ) → IsNumeral 10 (without_leading_sign bs) → IsPlain bs
plain [] numeral = absurd (omega (arith, numeral.0))
plain (c ∷ cs) numeral = by_sign (cases_Bool (c == 45)) (cases_Bool (c == 43))
  where
    by_sign : ((c == 45) ≡ true) ⊎ ((c == 45) ≡ false) → ((c == 43) ≡ true) ⊎ ((c == 43) ≡ false) → IsPlain (c ∷ cs)
    by_sign (inl e) sign =
        let n : IsNumeral 10 cs = rw e at numeral in
        let is : c ≡ 45 = eqb-true c 45 e in
        record { ascii = ascii_more c cs (omega arith) (IsAscii-from_digits cs n.1); read = rw e (sym (negative_read cs n) ∙ ap (λ c. read_int (c ∷ cs)) (sym is)) }
    by_sign (inr e) (inl f) =
        let n : IsNumeral 10 cs = rw (e, f) at numeral in
        let is : c ≡ 43 = eqb-true c 43 f in
        record { ascii = ascii_more c cs (omega arith) (IsAscii-from_digits cs n.1); read = rw (e, f) (sym (plus_read cs n) ∙ ap (λ c. read_int (c ∷ cs)) (sym is)) }
    by_sign (inr e) (inr f) =
        let n : IsNumeral 10 (c ∷ cs) = rw (e, f) at numeral in
        record { ascii = IsAscii-from_digits (c ∷ cs) n.1; read = rw (e, f) (sym (positive_read (c ∷ cs) n)) }

pub parsed_read : {E : Type 0} (bs : List ℕ) (r : Result ℤ E) (n : ℤ) → ParsesSigned w64 10 bs r → r ≡ Ok n → Value n ≡ read_int (chars bs)
parsed_read {E} bs r n parsed is =
    let good : ParsesSigned {E = E} w64 10 bs (Ok n) = rw is at parsed in
    let p = plain bs good.0.0 in
    ap Value good.1 ∙ (value_is (signed_digits_value 10 bs) good.0.1 ∙ (p.read ∙ ap read_int (sym (chars-IsAscii bs p.ascii))))
