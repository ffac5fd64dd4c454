-- Texts with as many bytes as characters: each character is one byte.
use Rattle.std.proofs.Common.{◌≡◌, ◌∙◌, sym, ap, subst, ℕ, ◌+◌, ◌-◌, ◌<◌, ◌≤◌, List, [], ◌∷◌, length, take, drop, IsUtf8, IsAscii, Option, nat_eq, true, slice_get, arith, length-append}
use Rattle.std.specs.Char.{len_utf8}
use Rattle.std.specs.Str.{chars}
use Rattle.std.proofs.Math.Utf8.{encode, encodes}
use Rattle.std.proofs.lemmas.Bool.{eqb-true}
use Rattle.std.proofs.lemmas.Bool.Decides.{nat_tests}
use Rattle.std.proofs.lemmas.Str.{chars-IsAscii, encodes-IsAscii, encodes-chars, length-encode, length-le-encodes, len_utf8_bounds, IsAscii-take, IsAscii-drop}
use Rattle.std.proofs.lemmas.Str.Ascii.{IsAscii-nil, IsAscii-cons}
use Rattle.tx_text.specs.Text.{part_of}

low_from_len : (c : ℕ) → len_utf8 c ≤ 1 → c < 128
low_from_len c h = grind (arith, nat_tests)

IsAscii-from_short : (cs : List ℕ) → length (encodes cs) ≤ length cs → IsAscii cs
IsAscii-from_short [] h = IsAscii-nil
IsAscii-from_short (c ∷ cs) h =
    let whole : length (encode c) + length (encodes cs) ≤ length cs + 1 = omega (arith, length-append (encode c) (encodes cs)) in
    let low : c < 128 = low_from_len c (omega (arith, length-encode c, length-le-encodes cs)) in
    IsAscii-cons c cs low (IsAscii-from_short cs (omega (arith, length-encode c, (len_utf8_bounds c).0)))

-- a text with no more bytes than characters is ASCII
pub IsAscii-from_count : (s : List ℕ) → IsUtf8 s → length s ≤ length (chars s) → IsAscii s
IsAscii-from_count s u h =
    let e : encodes (chars s) ≡ s = encodes-chars s u in
    let short : length (encodes (chars s)) ≤ length (chars s) = rw e h in
    let a : IsAscii (chars s) = IsAscii-from_short (chars s) short in
    subst IsAscii (sym (encodes-IsAscii (chars s) a) ∙ e) a

-- a text has no more characters than bytes
pub length-chars-le : (s : List ℕ) → IsUtf8 s → length (chars s) ≤ length s
length-chars-le s u = omega (arith, length-le-encodes (chars s), ap length (encodes-chars s u))

-- a range of an ASCII text's bytes is that range of its characters
pub chars-range : (s : List ℕ) (from to : ℕ) → IsAscii s → chars (take (to - from) (drop from s)) ≡ part_of from to (chars s)
chars-range s from to a =
    chars-IsAscii (take (to - from) (drop from s)) (IsAscii-take (drop from s) (to - from) (IsAscii-drop s from a)) ∙ ap (part_of from to) (sym (chars-IsAscii s a))

pub IsAscii-counted : (s : List ℕ) (n : ℕ) → IsUtf8 s → n ≡ length (chars s) → length s ≤ n → IsAscii s
IsAscii-counted s n u e l = IsAscii-from_count s u (omega arith)

pub IsAscii-tested : (s : List ℕ) (n : ℕ) → IsUtf8 s → n ≡ length (chars s) → nat_eq n (length s) ≡ true → IsAscii s
IsAscii-tested s n u e t = IsAscii-counted s n u e (omega (arith, eqb-true n (length s) t))

-- a byte of such a text is its character there
pub byte_at : (s bytes : List ℕ) (n at : ℕ) (r : Option ℕ) → IsUtf8 s → n ≡ length (chars s) → length s ≤ n → bytes ≡ s → r ≡ slice_get bytes at → r ≡ slice_get (chars s) at
byte_at s bytes n at r u e l b h =
    h ∙ ap (λ x. slice_get x at) (b ∙ sym (chars-IsAscii s (IsAscii-counted s n u e l)))
