-- A list that grows item by item, whose weight is known.
use Rattle.std.specs.Prelude.{◌≡◌, ℕ, ◌+◌, true, ◌&&◌, nat_le, nat_lt, if◌then◌else◌, List, Option, Some, None}
use Rattle.tx_values.specs.declared.value.Value.{Value}
use Rattle.tx_values.specs.declared.value.Value.TheVariants as v
use Rattle.tx_values.specs.Limits.{in_limits, weight, depth, most_weight, most_depth}

-- a list within the limits has this weight
pub record IsGrowing (items : List Value) (sum : ℕ) : Type 0 where
  pub weight : weight (v.List items) ≡ sum
  pub within : in_limits (v.List items) ≡ true

-- the weight of a list with one more item, where it is within the limits; without the item it has them
abbrev pub weight_with : ℕ → Value → Option ℕ
weight_with sum x = if nat_le (sum + (1 + weight x)) most_weight && nat_lt (depth x) most_depth then Some (sum + (1 + weight x)) else None
