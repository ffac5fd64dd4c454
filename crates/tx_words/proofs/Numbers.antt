-- A text as a number: clap's test and what `parse` says agree.
use Rattle.std.proofs.Common.{◌≡◌, ◌∙◌, ◌<◌, ◌≤◌, ◌^◌, ℕ, Bool, true, false, List, Some, None, if◌then◌else◌, refl, sym, ap, arith}
use Rattle.std.specs.Str.Parse.{IsNumeral, digits_value, without_leading_plus}
use Rattle.clap.specs.Values.{IsUnsignedIn}
use Rattle.clap.specs.ValueTests.{is_unsigned_in}
use Rattle.clap.specs.declared.builder.value_parser.ValueParser.TheVariants as vp
use Rattle.clap.proofs.ValueTestLemmas.{accepts-Accepts, Accepts-accepts}
use Rattle.tx_words.specs.Words.{number_up_to}

abbrev pub value_of : List ℕ → ℕ
value_of text = digits_value 10 (without_leading_plus text)

-- a numeral of k bits
abbrev pub IsOfBits : ℕ → List ℕ → Type 0
IsOfBits k text = IsNumeral 10 (without_leading_plus text) × (value_of text < 2 ^ k)

inside : (most : ℕ) (text : List ℕ) → IsUnsignedIn 0 most text → number_up_to most text ≡ Some (value_of text)
inside most text h =
    let e : is_unsigned_in 0 most text ≡ true = Accepts-accepts false (vp.Unsigned 0 most) text h in
    rw e refl

by_test : (most : ℕ) (text : List ℕ) (b : Bool) → is_unsigned_in 0 most text ≡ b → (IsUnsignedIn 0 most text → ⊥)
    → (if b then Some (value_of text) else None) ≡ None
by_test most text true e out = absurd (out (accepts-Accepts false (vp.Unsigned 0 most) text e))
by_test most text false e out = refl

outside : (most : ℕ) (text : List ℕ) → (IsUnsignedIn 0 most text → ⊥) → number_up_to most text ≡ None
outside most text out = by_test most text (is_unsigned_in 0 most text) refl out

-- a numeral up to `most` is read
pub read-within : (most n : ℕ) (text : List ℕ) → IsNumeral 10 (without_leading_plus text) → n ≡ value_of text → n < 2 ^ 64 → n ≤ most
    → Some n ≡ number_up_to most text
read-within most n text numeral e fits le =
    let h : IsUnsignedIn 0 most text = (numeral, rw e at fits, omega arith, rw e at le) in
    ap (λ (x : ℕ). Some x) e ∙ sym (inside most text h)

-- what is no numeral of so many bits is none up to `most`, which is of these bits
pub read-none : (k most : ℕ) (text : List ℕ) → (IsOfBits k text → ⊥) → most < 2 ^ k → None ≡ number_up_to most text
read-none k most text out fits = sym (outside most text (λ h.
    let le : value_of text ≤ most = h.3 in
    let lt : value_of text < 2 ^ k = omega (arith, le, fits) in
    out (h.0, lt)))
