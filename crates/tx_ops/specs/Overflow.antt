-- Integers that an operation makes.
use Rattle.std.specs.Prelude.{Option, Some, None, Ok, Err, ℤ}
use Rattle.tx_base.specs.declared.class.Class.TheVariants.{OverflowError}
use Rattle.tx_values.specs.declared.value.Value.{Value}
use Rattle.tx_values.specs.declared.value.Value as value
use Rattle.tx_values.specs.Answer.{Answer}

-- the integer, or OverflowError where none is given, since its exact value has more than 128 bits
abbrev pub int_or_overflow : Option ℤ → Answer Value
int_or_overflow (Some n) = Ok (value.Int n)
int_or_overflow None = Err OverflowError
