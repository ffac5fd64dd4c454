-- Slicings `base[from:to]` (Language Reference 6.3.3) of a sequence.
use Rattle.std.specs.Prelude.{List, Option, Some, None, Ok, Err, ℤ, pos}
use Rattle.tx_base.specs.declared.class.Class.TheVariants.{ProfileError, TypeError}
use Rattle.tx_num.specs.Place.{sliced}
use Rattle.tx_values.specs.declared.value.Value.{Value}
use Rattle.tx_values.specs.declared.value.Value as value
use Rattle.tx_values.specs.Answer.{Answer, ◌>>=◌}
use Rattle.tx_values.specs.Operand.{Operand, number, text, tuple, list, dictionary, none, operand}

-- a bound that is absent or None, or a number
abbrev pub bound_in : Operand → Answer (Option ℤ)
bound_in none = Ok None
bound_in (number n) = Ok (Some n)
bound_in _ = Err TypeError

abbrev pub bound_of : Option Value → Answer (Option ℤ)
bound_of None = Ok None
bound_of (Some a) = bound_in (operand a)

-- the slices of the language go from an item to the next
abbrev pub step : ℤ
step = pos 1

-- the part of a list between two bounds
abbrev pub part_between : {A : Type 0} → List A → Option Value → Option Value → Answer (List A)
part_between items from to = do
  start ← bound_of from
  stop ← bound_of to
  Ok (sliced step start stop items)

abbrev pub slice_in : Operand → Option Value → Option Value → Answer Value
slice_in (text s) from to = do
  part ← part_between s from to
  Ok (value.Text part)
slice_in (tuple items) from to = do
  part ← part_between items from to
  Ok (value.Tuple part)
slice_in (list items) from to = do
  part ← part_between items from to
  Ok (value.List part)
slice_in (dictionary pairs) from to = Err ProfileError
slice_in _ from to = Err TypeError

abbrev pub slice_of : Value → Option Value → Option Value → Answer Value
slice_of base from to = slice_in (operand base) from to
