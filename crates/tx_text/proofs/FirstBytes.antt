-- A text has as many characters as bytes that begin one.
use Rattle.std.proofs.Common.{◌≡◌, ◌∙◌, ℕ, ◌+◌, ◌<◌, ◌%◌, ◌/◌, Bool, true, false, List, [], ◌∷◌, ◌++◌, cond, length, sym, refl, ap, ap₂, one-add, arith, IsUtf8, nat_lt}
use Rattle.std.proofs.Math.Nat.{mod-lt}
use Rattle.std.proofs.Math.Utf8.{encode, encodes}
use Rattle.std.specs.List.{count_by}
use Rattle.std.specs.Str.{chars}
use Rattle.std.proofs.lemmas.Bool.Decides.{nat_tests}
use Rattle.std.proofs.lemmas.List.Sums.{sum_by-append}
use Rattle.std.proofs.lemmas.Str.{encodes-chars}
use Rattle.tx_text.specs.Calls.Store.{is_first_byte}

first_low : (c : ℕ) → nat_lt c 128 ≡ true → is_first_byte c ≡ true
first_low c h = rw h refl

first_high : (k n : ℕ) → n ≡ 192 + k → is_first_byte n ≡ true
first_high k n e = grind (arith, nat_tests)

not_first : (c : ℕ) → is_first_byte (128 + c % 64) ≡ false
not_first c =
    let low : c % 64 < 64 = mod-lt c {m = 64} (omega arith) in
    grind (arith, nat_tests)

one_first : (c : ℕ) (one two three : Bool) → nat_lt c 128 ≡ one
    → count_by is_first_byte (cond one (c ∷ []) (cond two ((192 + c / 64) ∷ (128 + c % 64) ∷ []) (cond three
    ((224 + c / 4096) ∷ (128 + c / 64 % 64) ∷ (128 + c % 64) ∷ [])
    ((240 + c / 262144) ∷ (128 + c / 4096 % 64) ∷ (128 + c / 64 % 64) ∷ (128 + c % 64) ∷ [])))) ≡ 1
one_first c true two three h = rw (first_low c h) refl
one_first c false true three h = rw (first_high (c / 64) (192 + c / 64) refl, not_first c) refl
one_first c false false true h = rw (first_high (32 + c / 4096) (224 + c / 4096) (omega arith), not_first (c / 64), not_first c) refl
one_first c false false false h =
    rw (first_high (48 + c / 262144) (240 + c / 262144) (omega arith), not_first (c / 4096), not_first (c / 64), not_first c) refl

count-encode : (c : ℕ) → count_by is_first_byte (encode c) ≡ 1
unfolding encode
count-encode c = one_first c (nat_lt c 128) (nat_lt c 2048) (nat_lt c 65536) refl

count-encodes : (cs : List ℕ) → count_by is_first_byte (encodes cs) ≡ length cs
count-encodes [] = refl
count-encodes (c ∷ cs) =
    let both : count_by is_first_byte (encode c ++ encodes cs) ≡ count_by is_first_byte (encode c) + count_by is_first_byte (encodes cs) =
    sum_by-append (λ x. cond (is_first_byte x) 1 0) (encode c) (encodes cs) in
    both ∙ (ap₂ (λ (n m : ℕ). n + m) (count-encode c) (count-encodes cs) ∙ one-add (length cs))

pub count-chars : (s : List ℕ) → IsUtf8 s → count_by is_first_byte s ≡ length (chars s)
count-chars s u = ap (λ t. count_by is_first_byte t) (sym (encodes-chars s u)) ∙ count-encodes (chars s)
