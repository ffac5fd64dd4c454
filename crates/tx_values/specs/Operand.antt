-- What an operation sees of a value (Python Language Reference, "The standard type hierarchy").
use Rattle.std.specs.Prelude.{ℕ, List, ℤ}
use Rattle.tx_values.specs.declared.value.Value.{Value, out-Value}
use Rattle.tx_values.specs.declared.value.Value.TheOpen.{Value-F}
use Rattle.tx_values.specs.declared.value.Value.TheOpen as v
use Rattle.tx_values.specs.Equality.{number_of}

-- a truth value is the number 0 or 1
pub data Operand : Type 0 where
  number : ℤ → Operand
  text : List ℕ → Operand
  tuple : List Value → Operand
  list : List Value → Operand
  dictionary : List (Value × Value) → Operand
  none : Operand

abbrev pub operand_open : Value-F Value → Operand
operand_open v.Nil = none
operand_open (v.Truth b) = number (number_of b)
operand_open (v.Int n) = number n
operand_open (v.Text s) = text s
operand_open (v.Tuple xs) = tuple xs
operand_open (v.List xs) = list xs
operand_open (v.Dict ps) = dictionary ps

abbrev pub operand : Value → Operand
operand a = operand_open (out-Value a)
