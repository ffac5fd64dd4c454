-- The numbers among operands.
use Rattle.std.specs.Prelude.{Option, Some, None, ℤ}
use Rattle.tx_values.specs.Operand.{Operand, number}

abbrev pub number_in : Operand → Option ℤ
number_in (number n) = Some n
number_in _ = None

-- the numbers of two operands, where both are
abbrev pub numbers_in : Operand → Operand → Option (ℤ × ℤ)
numbers_in (number m) (number n) = Some (m, n)
numbers_in _ _ = None
