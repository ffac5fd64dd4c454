-- The definitions over lists of items and of pairs, for the calls that go over them.
use Rattle.std.specs.Prelude.{ℕ, Bool, List, map}
use Rattle.std.specs.Cmp.Lexicographic.{pointwise}
use Rattle.std.specs.List.{flat_map, list_all}
use Rattle.tx_values.specs.declared.key.Atom.{Atom}
use Rattle.tx_values.specs.declared.value.Value.{Value}
use Rattle.tx_values.specs.Equality.{equal, has_pair}
use Rattle.tx_values.specs.Keys.{key_of}
use Rattle.tx_values.specs.Limits.{weight, weight_of_items, weight_of_pairs, depth, greatest_of, greatest_in}
use Rattle.tx_values.specs.Order.{Answer, less, less_items}
use Rattle.tx_values.specs.Valid.{hashable}

-- ---- weight and depth

abbrev pub weight_all : List Value → ℕ
weight_all items = weight_of_items (map weight items)

abbrev pub weight_pairs : List (Value × Value) → ℕ
weight_pairs pairs = weight_of_pairs (map (λ p. (weight p.0, weight p.1)) pairs)

abbrev pub depth_all : List Value → ℕ
depth_all items = greatest_of (map depth items)

abbrev pub depth_pairs : List (Value × Value) → ℕ
depth_pairs pairs = greatest_in (map (λ p. (depth p.0, depth p.1)) pairs)

-- ---- equality and order

abbrev pub equal_all : List Value → List Value → Bool
equal_all xs ys = pointwise (λ test item. test item) (map equal xs) ys

-- each pair of the first list has its like in the second
abbrev pub all_within : List (Value × Value) → List (Value × Value) → Bool
all_within ps qs = list_all (has_pair qs) (map (λ p. (equal p.0, equal p.1)) ps)

abbrev pub less_all : List Value → List Value → Answer
less_all xs ys = less_items (map (λ x. (x, less x)) xs) ys

-- ---- keys

abbrev pub hashable_all : List Value → Bool
hashable_all items = list_all (λ b. b) (map hashable items)

abbrev pub keys_of : List Value → List Atom
keys_of items = flat_map (λ atoms. atoms) (map key_of items)
