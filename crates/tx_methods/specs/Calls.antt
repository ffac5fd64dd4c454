-- For calls inside the crate alone: what they know of a result before they make it.
use Rattle.std.specs.Prelude.{ℕ, ◌+◌, ◌-◌, ◌^◌, min, Bool, true, false, if◌then◌else◌, List, [], ◌∷◌, length, map, Ok, Err, ℤ}
use Rattle.std.specs.List.{list_all}
use Rattle.tx_base.specs.declared.class.Class.TheVariants.{TypeError, ProfileError}
use Rattle.tx_num.specs.Range.{sum_from}
use Rattle.tx_text.specs.Text.{begins, is_blank}
use Rattle.tx_tree.specs.declared.function.Builtin.{Builtin}
use Rattle.tx_tree.specs.declared.function.Builtin.TheVariants as builtin
use Rattle.tx_values.specs.declared.value.Value.{Value}
use Rattle.tx_values.specs.declared.value.Value.TheVariants as value
use Rattle.tx_values.specs.Limits.{depth, greatest_of, in_limits, weight, weight_of_items}
use Rattle.tx_values.specs.Answer.{Answer, ◌>>=◌}
use Rattle.tx_methods.specs.Arguments.{a_text}
use Rattle.tx_methods.specs.Builtins.{int_or_past, is_number, numbers_ahead}
use Rattle.tx_methods.specs.TextMethods.{ends}
use Rattle.tx_methods.specs.Walks.{iterate_of}

-- ---- the functions that make one value of all items

abbrev pub is_fold : Builtin → Bool
is_fold builtin.Min = true
is_fold builtin.Max = true
is_fold builtin.Sum = true
is_fold builtin.Any = true
is_fold builtin.All = true
is_fold _ = false

-- ---- weight and depth

abbrev pub weight_of_values : List Value → ℕ
weight_of_values items = weight_of_items (map weight items)

abbrev pub depth_of_values : List Value → ℕ
depth_of_values items = greatest_of (map depth items)

-- the keys and the values of pairs
abbrev pub keys_of : List (Value × Value) → List Value
keys_of pairs = map (λ p. p.0) pairs

abbrev pub values_of : List (Value × Value) → List Value
values_of pairs = map (λ p. p.1) pairs

-- the items of a value, where a container of them is within the limits
abbrev pub items_within : Value → Answer (List Value)
items_within a = do
  items ← iterate_of a
  if in_limits (value.List items) then Ok items else Err ProfileError

-- the weight of the list of a text's words: a character of a word, and a word more where it is the first
abbrev pub words_weight : Bool → List ℕ → ℕ
words_weight within [] = 0
words_weight within (c ∷ text) =
    if is_blank c then words_weight false text
    else (if within then 1 else 2) + words_weight true text

-- the weight of texts that are joined, and of one that weighs so much behind each, from a sum so far, in 64 bits
abbrev pub joined_weight : ℕ → ℕ → List Value → Answer ℕ
joined_weight sum each [] = Ok sum
joined_weight sum each (item ∷ items) = do
  text ← a_text item
  joined_weight (min (min (sum + length text) (2 ^ 64 - 1) + each) (2 ^ 64 - 1)) each items

-- ---- where a part stands

abbrev pub stands : Bool → List ℕ → List ℕ → Bool
stands at_end text part = if at_end then ends part text else begins part text

-- ---- the sum so far, and what is left to add

abbrev pub sum_of_rest : ℤ → List Value → Answer Value
sum_of_rest total items = do
  sum ← int_or_past (sum_from total (numbers_ahead items))
  if list_all is_number items then Ok sum else Err TypeError
