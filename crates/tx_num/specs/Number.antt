-- Integers of 128 bits, and division that rounds down.
use Rattle.std.specs.Prelude.{ℕ, zero, suc, ◌-◌, ◌/◌, ◌%◌, Option, Some, None, if◌then◌else◌, ℤ, pos, negsuc, neg_ℤ}
use Rattle.tx_base.specs.Width.{is_128_bit}
use Rattle.tx_num.specs.declared.division.Division.{Division}
use Rattle.tx_num.specs.declared.division.Division.TheVariants.{Value, Zero, Past}

-- a number where it has 128 bits
abbrev pub kept : ℤ → Option ℤ
kept n = if is_128_bit n then Some n else None

-- ---- division by a number that is not 0 (Language Reference, "Binary arithmetic operations")

-- rounded down, by a positive divisor
abbrev pub quotient_by : ℕ → ℤ → ℤ
quotient_by b (pos a) = pos (a / b)
quotient_by b (negsuc a) = negsuc (a / b)

-- `a // b`
abbrev pub floor_quotient : ℤ → ℤ → ℤ
floor_quotient a (pos b) = quotient_by b a
floor_quotient a (negsuc b) = quotient_by (suc b) (neg_ℤ a)

-- what is left, by a positive divisor
abbrev pub remainder_by : ℕ → ℤ → ℤ
remainder_by b (pos a) = pos (a % b)
remainder_by b (negsuc a) = pos (b - 1 - a % b)

-- `a % b`, which has the divisor's sign
abbrev pub floor_remainder : ℤ → ℤ → ℤ
floor_remainder a (pos b) = remainder_by b a
floor_remainder a (negsuc b) = neg_ℤ (remainder_by (suc b) (neg_ℤ a))

-- ---- what `floor_div` and `floor_mod` give

abbrev pub unless_zero : ℤ → Division → Division
unless_zero (pos zero) answer = Zero
unless_zero (pos (suc b)) answer = answer
unless_zero (negsuc b) answer = answer

abbrev pub value_or_past : ℤ → Division
value_or_past n = if is_128_bit n then Value n else Past

abbrev pub floor_division : ℤ → ℤ → Division
floor_division a b = unless_zero b (value_or_past (floor_quotient a b))

abbrev pub floor_modulo : ℤ → ℤ → Division
floor_modulo a b = unless_zero b (Value (floor_remainder a b))
