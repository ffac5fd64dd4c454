-- The rows of the tables of arithmetic that are not of two numbers.
use Rattle.std.specs.Prelude.{◌++◌, Err, ℤ}
use Rattle.tx_base.specs.declared.class.Class.TheVariants.{ProfileError, TypeError}
use Rattle.tx_num.specs.Place.{times_of}
use Rattle.tx_text.specs.Text.{repeated}
use Rattle.tx_values.specs.declared.value.Value.{Value}
use Rattle.tx_values.specs.declared.value.Value as value
use Rattle.tx_values.specs.Answer.{Answer}
use Rattle.tx_values.specs.Limits.{made}
use Rattle.tx_values.specs.Operand.{Operand, text, tuple, list}
use Rattle.tx_ops.specs.Binary.{copies, repetition}

-- a sequence and another of its kind
abbrev pub joined : Operand → Operand → Answer Value
joined (text s) (text t) = made (value.Text (s ++ t))
joined (tuple xs) (tuple ys) = made (value.Tuple (xs ++ ys))
joined (list xs) (list ys) = made (value.List (xs ++ ys))
joined _ _ = Err TypeError

-- a sequence and a factor
abbrev pub repeated_by : Operand → ℤ → Answer Value
repeated_by (text s) n = repetition (times_of n) (λ times. value.Text (repeated times s))
repeated_by (tuple xs) n = repetition (times_of n) (λ times. value.Tuple (copies times xs))
repeated_by (list xs) n = repetition (times_of n) (λ times. value.List (copies times xs))
repeated_by _ n = Err TypeError

-- the left operand of `%` where not both are numbers
abbrev pub not_divided : Operand → Answer Value
not_divided (text s) = Err ProfileError
not_divided _ = Err TypeError
