-- Bytes that are UTF-8 have no first bad one.
use Rattle.std.proofs.Common.{◌≡◌, ℕ, zero, suc, ◌+◌, ◌-◌, ◌*◌, ◌≤◌, List, [], ◌∷◌, false, None, length, nat_lt, ap, arith}
use Rattle.std.specs.Str.{IsUtf8, chars, chars_after, continuation_len, lead_bits}
use Rattle.std.specs.Str.Lossy.{utf8_valid_len}
use Rattle.std.proofs.lemmas.Str.{utf8_valid_len-IsUtf8}
use Rattle.tx_script.specs.declared.fault.ScriptKind.TheVariants as kind
use Rattle.tx_script.specs.Linked.{at}
use Rattle.tx_script.specs.Checks.{when, line_of_place, not_text}

lt_false : (a b : ℕ) → a ≡ b → nat_lt a b ≡ false
lt_false a b e = grind arith

pub utf8_is_text : (bytes : List ℕ) → IsUtf8 bytes → not_text bytes ≡ None
utf8_is_text bytes u = ap (λ b. when b (at kind.NotText (line_of_place (utf8_valid_len bytes) bytes))) (lt_false _ _ (utf8_valid_len-IsUtf8 bytes u))

-- no more characters than bytes
after_few : (n c : ℕ) (bs : List ℕ) → length (chars_after n c bs) ≤ length bs + 1
after_few zero c [] = omega arith
after_few zero c (b ∷ bs) = let e = after_few (continuation_len b) (lead_bits b) bs in omega (arith, e)
after_few (suc n) c [] = omega arith
after_few (suc n) c (b ∷ bs) = let e = after_few n (c * 64 + (b - 128)) bs in omega (arith, e)

pub chars_few : (bs : List ℕ) → length (chars bs) ≤ length bs
unfolding chars
chars_few [] = omega arith
chars_few (b ∷ bs) = let e = after_few (continuation_len b) (lead_bits b) bs in omega (arith, e)
