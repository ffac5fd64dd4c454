-- Whether a sequence that is not made yet is within the limits.
use Rattle.std.specs.Prelude.{ℕ, zero, suc, ◌+◌, ◌*◌, ◌++◌, Bool, true, ◌&&◌, nat_le, List, ok_or, if◌then◌else◌, Ok, Err, ℤ}
use Rattle.tx_base.specs.declared.class.Class.TheVariants.{OverflowError, ProfileError}
use Rattle.tx_num.specs.Place.{times_of}
use Rattle.tx_values.specs.declared.value.Value.{Value}
use Rattle.tx_values.specs.declared.value.Value as value
use Rattle.tx_values.specs.Limits.{depth, most_depth, most_weight, weight}
use Rattle.tx_values.specs.Answer.{Answer, ◌>>=◌}
use Rattle.tx_ops.specs.Binary.{copies}

-- the sequence that holds the items of both
abbrev pub both_fit : Value → Value → Bool
both_fit a b = nat_le (weight a + weight b) most_weight && (nat_le (depth a) most_depth && nat_le (depth b) most_depth)

-- the one that holds the items of this one so many times
abbrev pub copies_fit : ℕ → Value → Bool
copies_fit zero a = true
copies_fit (suc times) a = nat_le (suc times * weight a) most_weight && nat_le (depth a) most_depth

-- the items of two sequences, where one that holds both is within the limits
abbrev pub both_items : Value → Value → List Value → List Value → Answer (List Value)
both_items a b xs ys = if both_fit a b then Ok (xs ++ ys) else Err ProfileError

-- the items of a sequence, repeated by a factor
abbrev pub repeated_items : Value → List Value → ℤ → Answer (List Value)
repeated_items a items factor = do
  times ← ok_or (times_of factor) OverflowError
  if copies_fit times a then Ok (copies times items) else Err ProfileError

-- the tuple and the list of such items
abbrev pub tuple_of : Answer (List Value) → Answer Value
tuple_of answer = do
  items ← answer
  Ok (value.Tuple items)

abbrev pub list_of : Answer (List Value) → Answer Value
list_of answer = do
  items ← answer
  Ok (value.List items)
