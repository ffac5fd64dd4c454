-- Arithmetic (Language Reference 6.7, "Binary arithmetic operations"; for sequences the Library Reference, "Common Sequence
-- Operations"). Each operator is a table of the kinds of its two operands, and all kinds that have no row are a TypeError. A
-- sequence that is made is refused past its limits, as all values are; where an operation has other causes too, they come
-- first.
use Rattle.std.specs.Prelude.{ℕ, zero, suc, List, [], ◌++◌, Option, Some, None, Ok, Err, ◌+ℤ◌, ◌-ℤ◌, ◌*ℤ◌}
use Rattle.tx_base.specs.declared.class.Class.TheVariants.{OverflowError, ProfileError, TypeError, ZeroDivisionError}
use Rattle.tx_num.specs.Number.{floor_division, floor_modulo, kept}
use Rattle.tx_num.specs.Place.{times_of}
use Rattle.tx_num.specs.declared.division.Division.{Division}
use Rattle.tx_num.specs.declared.division.Division.TheVariants as division
use Rattle.tx_text.specs.Text.{repeated}
use Rattle.tx_tree.specs.declared.operator.BinaryOp.{BinaryOp}
use Rattle.tx_tree.specs.declared.operator.BinaryOp.TheVariants.{Add, Sub, Mul, FloorDiv, Mod}
use Rattle.tx_values.specs.declared.value.Value.{Value}
use Rattle.tx_values.specs.declared.value.Value as value
use Rattle.tx_values.specs.Limits.{made}
use Rattle.tx_values.specs.Answer.{Answer}
use Rattle.tx_values.specs.Operand.{Operand, number, text, tuple, list, operand}
use Rattle.tx_ops.specs.Overflow.{int_or_overflow}

-- ---- `a + b`: numbers are added, and a sequence is joined with one of its own kind

abbrev pub sum : Operand → Operand → Answer Value
sum (number m) (number n) = int_or_overflow (kept (m +ℤ n))
sum (text s) (text t) = made (value.Text (s ++ t))
sum (tuple xs) (tuple ys) = made (value.Tuple (xs ++ ys))
sum (list xs) (list ys) = made (value.List (xs ++ ys))
sum _ _ = Err TypeError

-- ---- `a - b`: numbers

abbrev pub difference : Operand → Operand → Answer Value
difference (number m) (number n) = int_or_overflow (kept (m -ℤ n))
difference _ _ = Err TypeError

-- ---- `a * b`: numbers are multiplied, and a sequence is repeated by a number on either side

-- the items of a list so many times
abbrev pub copies : {A : Type 0} → ℕ → List A → List A
copies zero items = []
copies (suc times) items = items ++ copies times items

-- a factor of more than 64 bits is an OverflowError, and a negative one repeats nothing
abbrev pub repetition : Option ℕ → (ℕ → Value) → Answer Value
repetition None repeated_value = Err OverflowError
repetition (Some times) repeated_value = made (repeated_value times)

abbrev pub product : Operand → Operand → Answer Value
product (number m) (number n) = int_or_overflow (kept (m *ℤ n))
product (text s) (number n) = repetition (times_of n) (λ times. value.Text (repeated times s))
product (number n) (text s) = repetition (times_of n) (λ times. value.Text (repeated times s))
product (tuple xs) (number n) = repetition (times_of n) (λ times. value.Tuple (copies times xs))
product (number n) (tuple xs) = repetition (times_of n) (λ times. value.Tuple (copies times xs))
product (list xs) (number n) = repetition (times_of n) (λ times. value.List (copies times xs))
product (number n) (list xs) = repetition (times_of n) (λ times. value.List (copies times xs))
product _ _ = Err TypeError

-- ---- `a // b` and `a % b`: numbers, rounded down, and what is then left

abbrev pub divided : Division → Answer Value
divided (division.Value n) = Ok (value.Int n)
divided division.Zero = Err ZeroDivisionError
divided division.Past = Err OverflowError

abbrev pub quotient : Operand → Operand → Answer Value
quotient (number m) (number n) = divided (floor_division m n)
quotient _ _ = Err TypeError

-- a text on the left is formatted by Python, which the profile leaves out
abbrev pub remainder : Operand → Operand → Answer Value
remainder (number m) (number n) = divided (floor_modulo m n)
remainder (text s) _ = Err ProfileError
remainder _ _ = Err TypeError

-- ---- the operators

abbrev pub binary_of : BinaryOp → Value → Value → Answer Value
binary_of Add a b = sum (operand a) (operand b)
binary_of Sub a b = difference (operand a) (operand b)
binary_of Mul a b = product (operand a) (operand b)
binary_of FloorDiv a b = quotient (operand a) (operand b)
binary_of Mod a b = remainder (operand a) (operand b)
