-- The weight and the depth of a value, and the limits of both.
use Rattle.std.specs.Prelude.{ℕ, ◌+◌, max, Bool, ◌&&◌, if◌then◌else◌, List, [], ◌∷◌, length, nat_le, Result, Ok, Err}
use Rattle.tx_base.specs.declared.class.Class.{Class}
use Rattle.tx_base.specs.declared.class.Class.TheVariants.{ProfileError}
use Rattle.tx_values.specs.declared.value.Value.{Value, fold-Value}
use Rattle.tx_values.specs.declared.value.Value.TheOpen.{Value-F}
use Rattle.tx_values.specs.declared.value.Value.TheOpen as v

-- ---- weight: the characters of texts, and the items and pairs of containers, at every depth

-- each item and its weight
abbrev pub weight_of_items : List ℕ → ℕ
weight_of_items [] = 0
weight_of_items (weight ∷ weights) = (1 + weight) + weight_of_items weights

-- each pair, and the weights of its key and its value
abbrev pub weight_of_pairs : List (ℕ × ℕ) → ℕ
weight_of_pairs [] = 0
weight_of_pairs (pair ∷ pairs) = (1 + pair.0 + pair.1) + weight_of_pairs pairs

-- of a layer whose parts have these weights
abbrev pub weight_step : Value-F ℕ → ℕ
weight_step v.Nil = 0
weight_step (v.Truth b) = 0
weight_step (v.Int n) = 0
weight_step (v.Text text) = length text
weight_step (v.Tuple weights) = weight_of_items weights
weight_step (v.List weights) = weight_of_items weights
weight_step (v.Dict pairs) = weight_of_pairs pairs

abbrev pub weight : Value → ℕ
weight = fold-Value ℕ weight_step

-- ---- depth: 0 of a scalar, and of a container one more than the greatest of its parts

abbrev pub greatest_of : List ℕ → ℕ
greatest_of [] = 0
greatest_of (n ∷ ns) = max n (greatest_of ns)

abbrev pub greatest_in : List (ℕ × ℕ) → ℕ
greatest_in [] = 0
greatest_in (pair ∷ pairs) = max (max pair.0 pair.1) (greatest_in pairs)

abbrev pub depth_step : Value-F ℕ → ℕ
depth_step (v.Tuple depths) = 1 + greatest_of depths
depth_step (v.List depths) = 1 + greatest_of depths
depth_step (v.Dict pairs) = 1 + greatest_in pairs
depth_step _ = 0

abbrev pub depth : Value → ℕ
depth = fold-Value ℕ depth_step

-- ---- limits

abbrev pub most_weight : ℕ
most_weight = 1048576

abbrev pub most_depth : ℕ
most_depth = 16

abbrev pub in_limits : Value → Bool
in_limits a = nat_le (weight a) most_weight && nat_le (depth a) most_depth

-- what an operation answers with a value that it made
abbrev pub made : Value → Result Value Class
made a = if in_limits a then Ok a else Err ProfileError
