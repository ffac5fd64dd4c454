-- Reading by characters: what the rest of a text gives behind one more.
use Rattle.std.proofs.Common.{◌≡◌, ◌∙◌, ◌==◌, ◌&&◌, ◌||◌, ◌+◌, ◌*◌, ◌/◌, ◌^◌, ◌≤◌, ◌<◌, ℕ, zero, suc, Bool, true, false, List, [], ◌∷◌, Option, Some, None, refl, sym, ap, arith, if◌then◌else◌, filter}
use Rattle.std.specs.Char.{digit_value}
use Rattle.std.specs.List.{list_all, list_any}
use Rattle.std.specs.Str.Parse.{digits_value_after}
use Rattle.std.proofs.lemmas.Bool.{eqb-true, ne_eqb, true≢false, leb-true, agree_below_at, and_parts, and_from, false_from_ne_true, le-ltb}
use Rattle.tx_text.specs.Text.{is_ascii_digit, is_blank, stripped, without_back, without_front}
use Rattle.tx_text.specs.declared.strip.Side.TheVariants.{Both}
use Rattle.tx_num.specs.ReadInt.{is_outside, read_digits, read_signed, value_read, with_sign}
use Rattle.tx_num.specs.Calls.Reading.{any_rest_read, goes_on, longer_read, number_read, rest_read}
use Rattle.tx_num.specs.declared.read.IntRead.{IntRead}
use Rattle.tx_num.specs.declared.read.IntRead.TheVariants.{NotInt, Past, OutOfProfile}
use Rattle.tx_num.specs.declared.reading.Reading.{Reading}
use Rattle.tx_num.specs.declared.reading.Reading.TheVariants.{Blank}
use Rattle.tx_num.proofs.Ends.{back_step, front_step}
use Rattle.tx_num.proofs.Groups.{digits_go_on}

-- ---- kinds of characters

digit_and_blank : (c : ℕ) → c < 128 → (is_ascii_digit c && is_blank c) ≡ false
digit_and_blank c h = agree_below_at (λ c. is_ascii_digit c && is_blank c) (λ c. false) 128 c refl h

pub digit_is_low : (c : ℕ) → is_ascii_digit c ≡ true → c < 128
digit_is_low c d = omega (arith, leb-true c 57 (and_parts _ _ d).1)

pub digit_blank : (c : ℕ) → is_ascii_digit c ≡ true → is_blank c ≡ false
digit_blank c d = false_from_ne_true _ (λ b. true≢false (sym (and_from _ _ d b) ∙ digit_and_blank c (digit_is_low c d)))

blank_digit : (c : ℕ) → is_blank c ≡ true → is_ascii_digit c ≡ false
blank_digit c b = false_from_ne_true _ (λ d. true≢false (sym b ∙ digit_blank c d))

blank_underscore : (c : ℕ) → is_blank c ≡ true → (c == 95) ≡ false
blank_underscore c b = false_from_ne_true _ (λ e. true≢false (sym b ∙ ap is_blank (eqb-true c 95 e)))

and_none : (b : Bool) → (b && false) ≡ false
and_none true = refl
and_none false = refl

-- ---- sizes that are past 128 bits

grows : (n : ℕ) (ds : List ℕ) → n ≤ digits_value_after 10 n ds
grows n [] = omega arith
grows n (d ∷ ds) = omega (arith, grows (n * 10 + digit_value d) ds)

past_read : (negative : Bool) (n : ℕ) → 2 ^ 127 < n → Past ≡ value_read (with_sign negative n)
past_read false n past = rw (le-ltb n (2 ^ 127) (omega arith)) refl
past_read true zero past = absurd (omega arith)
past_read true (suc n) past = rw (le-ltb n (2 ^ 127) (omega arith)) refl

-- none of the numbers that go on so has 128 bits
pub past_longer : (n c : ℕ) → 2 ^ 127 / 10 < n → (negative : Bool) (digits : List ℕ) → longer_read negative None digits ≡ longer_read negative (Some n) (c ∷ digits)
past_longer n c past negative digits = past_read negative (digits_value_after 10 (n * 10 + digit_value c) digits) (omega (arith, grows (n * 10 + digit_value c) digits))

-- ---- a character behind a sign, digits and underscores

pub digit_more : (negative : Bool) (size next : Option ℕ) (after : Bool) (c : ℕ) (rest : List ℕ) → is_ascii_digit c ≡ true
    → ((negative : Bool) (digits : List ℕ) → longer_read negative next digits ≡ longer_read negative size (c ∷ digits))
    → number_read negative next true (without_back is_blank rest) ≡ number_read negative size after (without_back is_blank (c ∷ rest))
digit_more negative size next after c rest digit longer =
    let text : List ℕ = without_back is_blank rest in
    let back : without_back is_blank (c ∷ rest) ≡ c ∷ text =
    back_step is_blank c rest ∙ ap (λ b. if b && list_all is_blank rest then [] else c ∷ text) (digit_blank c digit) in
    let further : number_read negative size after (c ∷ text) ≡ (if goes_on true text then longer_read negative size (c ∷ filter is_ascii_digit text) else NotInt) = rw digit refl in
    ap (λ r. if goes_on true text then r else NotInt) (longer negative (filter is_ascii_digit text)) ∙ sym (ap (number_read negative size after) back ∙ further)

pub underscore_more : (negative : Bool) (size : Option ℕ) (c : ℕ) (rest : List ℕ) → c ≡ 95
    → number_read negative size false (without_back is_blank rest) ≡ number_read negative size true (without_back is_blank (c ∷ rest))
underscore_more negative size c rest is = sym (ap (λ c. number_read negative size true (without_back is_blank (c ∷ rest))) is ∙ ap (number_read negative size true) (back_step is_blank 95 rest))

-- what is no digit, and no underscore behind a digit, begins no rest of a number
stops : (negative : Bool) (size : Option ℕ) (after : Bool) (c : ℕ) (text : List ℕ) → is_ascii_digit c ≡ false → ((c == 95) && after) ≡ false → number_read negative size after (c ∷ text) ≡ NotInt
stops negative size after c text other unfit = ap (λ b. if b then longer_read negative size (filter is_ascii_digit (c ∷ text)) else NotInt) none
  where
    apart : (b after rest : Bool) → (b && after) ≡ false → (b && (after && rest)) ≡ false
    apart true true rest e = absurd (true≢false e)
    apart true false rest e = refl
    apart false after rest e = refl

    none : goes_on after (c ∷ text) ≡ false
    none = rw other (apart (c == 95) after (goes_on false text) unfit)

same_either_way : (b : Bool) (r : IntRead) → (if b then r else r) ≡ r
same_either_way true r = refl
same_either_way false r = refl

-- the number ends, and whitespace may follow
pub blank_more : (negative : Bool) (size : Option ℕ) (r : IntRead) (c : ℕ) (rest : List ℕ) → is_blank c ≡ true → r ≡ longer_read negative size []
    → (if list_all is_blank rest then r else NotInt) ≡ number_read negative size true (without_back is_blank (c ∷ rest))
blank_more negative size r c rest blank is =
    let text : List ℕ = without_back is_blank rest in
    let back : without_back is_blank (c ∷ rest) ≡ (if list_all is_blank rest then [] else c ∷ text) =
    back_step is_blank c rest ∙ ap (λ b. if b && list_all is_blank rest then [] else c ∷ text) blank in
    either (list_all is_blank rest) text ∙ sym (ap (number_read negative size true) back)
  where
    either : (all : Bool) (text : List ℕ) → (if all then r else NotInt) ≡ number_read negative size true (if all then [] else c ∷ text)
    either true text = is
    either false text = sym (stops negative size true c text (blank_digit c blank) (ap (λ b. b && true) (blank_underscore c blank)))

-- there is no number
pub none_more : (negative : Bool) (size : Option ℕ) (c : ℕ) (rest : List ℕ) → is_ascii_digit c ≡ false
    → (if list_all is_blank rest then NotInt else NotInt) ≡ number_read negative size false (without_back is_blank (c ∷ rest))
none_more negative size c rest other =
    same_either_way (list_all is_blank rest) NotInt ∙ sym (ap (number_read negative size false) (back_step is_blank c rest) ∙ either (is_blank c && list_all is_blank rest))
  where
    either : (b : Bool) → number_read negative size false (if b then [] else c ∷ without_back is_blank rest) ≡ NotInt
    either true = refl
    either false = stops negative size false c (without_back is_blank rest) other (and_none (c == 95))

pub stop_more : (negative : Bool) (size : Option ℕ) (c : ℕ) (rest : List ℕ) → is_ascii_digit c ≡ false → (c ≡ 95 → ⊥) → is_blank c ≡ false
    → (if list_all is_blank rest then NotInt else NotInt) ≡ number_read negative size true (without_back is_blank (c ∷ rest))
stop_more negative size c rest other apart blank =
    let text : List ℕ = without_back is_blank rest in
    let back : without_back is_blank (c ∷ rest) ≡ c ∷ text =
    back_step is_blank c rest ∙ ap (λ b. if b && list_all is_blank rest then [] else c ∷ text) blank in
    same_either_way (list_all is_blank rest) NotInt
    ∙ sym (ap (number_read negative size true) back ∙ stops negative size true c text other (ap (λ b. b && true) (ne_eqb c 95 apart)))

pub ruleset behind_a_number = (digit_more, underscore_more, blank_more, none_more, stop_more)

-- ---- a character behind whitespace

pub blank_first : (c : ℕ) (rest : List ℕ) → is_blank c ≡ true → rest_read Blank rest ≡ rest_read Blank (c ∷ rest)
blank_first c rest blank =
    ap (λ t. read_signed (without_back is_blank t)) (sym (front_step is_blank c rest ∙ ap (λ b. if b then without_front is_blank rest else c ∷ rest) blank))

-- a text whose first character is kept
pub kept_first : (c : ℕ) (rest : List ℕ) → is_blank c ≡ false → stripped Both is_blank (c ∷ rest) ≡ c ∷ without_back is_blank rest
kept_first c rest other =
    ap (without_back is_blank) (front_step is_blank c rest ∙ ap (λ b. if b then without_front is_blank rest else c ∷ rest) other)
    ∙ (back_step is_blank c rest ∙ ap (λ b. if b && list_all is_blank rest then [] else c ∷ without_back is_blank rest) other)

pub minus_first : (c : ℕ) (rest : List ℕ) → c ≡ 45 → read_signed (stripped Both is_blank (c ∷ rest)) ≡ number_read true (Some 0) false (without_back is_blank rest)
minus_first c rest is = ap (λ c. rest_read Blank (c ∷ rest)) is ∙ (ap read_signed (kept_first 45 rest refl) ∙ digits_go_on true (without_back is_blank rest))

pub plus_first : (c : ℕ) (rest : List ℕ) → c ≡ 43 → read_signed (stripped Both is_blank (c ∷ rest)) ≡ number_read false (Some 0) false (without_back is_blank rest)
plus_first c rest is = ap (λ c. rest_read Blank (c ∷ rest)) is ∙ (ap read_signed (kept_first 43 rest refl) ∙ digits_go_on false (without_back is_blank rest))

pub other_first : (c : ℕ) (rest : List ℕ) → is_blank c ≡ false → (c ≡ 45 → ⊥) → (c ≡ 43 → ⊥)
    → read_signed (stripped Both is_blank (c ∷ rest)) ≡ number_read false (Some 0) false (without_back is_blank (c ∷ rest))
other_first c rest other minus plus =
    let text : List ℕ = without_back is_blank rest in
    let back : without_back is_blank (c ∷ rest) ≡ c ∷ text =
    back_step is_blank c rest ∙ ap (λ b. if b && list_all is_blank rest then [] else c ∷ text) other in
    let signed : read_signed (c ∷ text) ≡ read_digits false (c ∷ text) = rw (ne_eqb c 45 minus, ne_eqb c 43 plus) refl in
    ap read_signed (kept_first c rest other) ∙ (signed ∙ (digits_go_on false (c ∷ text) ∙ sym (ap (number_read false (Some 0) false) back)))

pub ruleset behind_whitespace = (blank_first, other_first)

-- ---- a turn of the loop

pub turn : (reading next : Reading) (c : ℕ) (rest more : List ℕ) (whole : IntRead) → rest ≡ c ∷ more → is_outside c ≡ false
    → ((rest : List ℕ) → rest_read next rest ≡ rest_read reading (c ∷ rest)) → any_rest_read reading rest ≡ whole → any_rest_read next more ≡ whole
turn reading next c rest more whole is within same before =
    let front : any_rest_read reading (c ∷ more) ≡ (if list_any is_outside more then OutOfProfile else rest_read reading (c ∷ more)) =
    ap (λ b. if b || list_any is_outside more then OutOfProfile else rest_read reading (c ∷ more)) within in
    ap (λ r. if list_any is_outside more then OutOfProfile else r) (same more) ∙ (sym front ∙ (ap (any_rest_read reading) (sym is) ∙ before))

pub found_outside : (reading : Reading) (c : ℕ) (rest more : List ℕ) (whole : IntRead) → rest ≡ c ∷ more → is_outside c ≡ true → any_rest_read reading rest ≡ whole → OutOfProfile ≡ whole
found_outside reading c rest more whole is outside before =
    sym (ap (λ b. if b || list_any is_outside more then OutOfProfile else rest_read reading (c ∷ more)) outside) ∙ (ap (any_rest_read reading) (sym is) ∙ before)

pub at_end : (reading : Reading) (rest : List ℕ) (answer whole : IntRead) → rest ≡ [] → answer ≡ rest_read reading [] → any_rest_read reading rest ≡ whole → answer ≡ whole
at_end reading rest answer whole none is before = is ∙ (ap (any_rest_read reading) (sym none) ∙ before)
