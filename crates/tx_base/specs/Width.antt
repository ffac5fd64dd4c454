-- Integers of 128 bits.
use Rattle.std.specs.Prelude.{ℤ, pos, negsuc, ◌^◌, Bool, nat_lt}

-- from -2^127 to 2^127 - 1; `negsuc n` is -(n + 1)
abbrev pub is_128_bit : ℤ → Bool
is_128_bit (pos n) = nat_lt n (2 ^ 127)
is_128_bit (negsuc n) = nat_lt n (2 ^ 127)
