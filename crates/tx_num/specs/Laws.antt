-- Laws above the definitions of `Number` and `ReadInt`.
use Rattle.std.specs.Prelude.{◌≡◌, ◌≢◌, true, ℤ, pos, negsuc, ◌+ℤ◌, ◌*ℤ◌, ◌≤ℤ◌, ◌<ℤ◌}
use Rattle.std.specs.Fmt.{signed_decimal}
use Rattle.tx_base.specs.Width.{is_128_bit}
use Rattle.tx_num.specs.Number.{floor_quotient, floor_remainder}
use Rattle.tx_num.specs.ReadInt.{read_int}
use Rattle.tx_num.specs.declared.read.IntRead.TheVariants.{Value}

-- r lies between 0 and the divisor, and is not the divisor
abbrev pub LiesBetween : ℤ → ℤ → Type 0
LiesBetween (pos b) r = (pos 0 ≤ℤ r) × (r <ℤ pos b)
LiesBetween (negsuc b) r = (negsuc b <ℤ r) × (r ≤ℤ pos 0)

-- q and r are the quotient, rounded down, and the remainder
abbrev pub IsFloor : ℤ → ℤ → ℤ → ℤ → Type 0
IsFloor a b q r = (a ≡ q *ℤ b +ℤ r) × LiesBetween b r

abbrev pub FloorLaw : Type 0
FloorLaw = (a b : ℤ) → b ≢ pos 0
    → IsFloor a b (floor_quotient a b) (floor_remainder a b)
    × ((q r : ℤ) → IsFloor a b q r → (q ≡ floor_quotient a b) × (r ≡ floor_remainder a b))

-- the text that an integer is printed as is read as the integer
abbrev pub PrintedLaw : Type 0
PrintedLaw = (n : ℤ) → is_128_bit n ≡ true → read_int (signed_decimal n) ≡ Value n
