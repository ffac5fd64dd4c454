-- What a `for` or a comprehension goes through: the items of a value (Python Language Reference, "The for statement"; built-in
-- types, "Iterator Types"), and those of `range`, `enumerate` and `zip` (built-in functions) and of a dictionary's views
-- ("Dictionary view objects"). A list of items is no value and has no limit of its own; each item is a value.
use Rattle.std.specs.Prelude.{ℕ, ◌+◌, List, [], ◌∷◌, map, zip, if◌then◌else◌, Ok, Err, ℤ, pos}
use Rattle.std.specs.List.{list_all}
use Rattle.tx_base.specs.declared.class.Class.TheVariants.{TypeError, ValueError, ProfileError}
use Rattle.tx_num.specs.Range.{items_from, range_length}
use Rattle.tx_num.specs.declared.range.RangeLength.{RangeLength}
use Rattle.tx_num.specs.declared.range.RangeLength.TheVariants.{Count, NoStep, Past}
use Rattle.tx_tree.specs.declared.function.Walk.{Walk}
use Rattle.tx_tree.specs.declared.function.Walk.TheVariants as walk
use Rattle.tx_values.specs.declared.value.Value.{Value, out-Value}
use Rattle.tx_values.specs.declared.value.Value.TheVariants as value
use Rattle.tx_values.specs.declared.value.Value.TheOpen.{Value-F}
use Rattle.tx_values.specs.declared.value.Value.TheOpen as v
use Rattle.tx_values.specs.Limits.{in_limits}
use Rattle.tx_values.specs.Answer.{Answer, ◌>>=◌}
use Rattle.tx_methods.specs.Arguments.{only, both, a_number}

-- ---- the items of a value

abbrev pub character : ℕ → Value
character c = value.Text (c ∷ [])

-- the characters of a text, the items of a tuple or list, the keys of a dictionary
abbrev pub items_in : Value-F Value → Answer (List Value)
items_in (v.Text text) = Ok (map character text)
items_in (v.Tuple items) = Ok items
items_in (v.List items) = Ok items
items_in (v.Dict pairs) = Ok (map (λ p. p.0) pairs)
items_in _ = Err TypeError

abbrev pub iterate_of : Value → Answer (List Value)
iterate_of a = items_in (out-Value a)

-- ---- `range`

abbrev pub numbers_in : List Value → Answer (List ℤ)
numbers_in [] = Ok []
numbers_in (a ∷ args) = do
  n ← a_number a
  ns ← numbers_in args
  Ok (n ∷ ns)

abbrev pub counted_from : ℤ → ℤ → RangeLength → Answer (List Value)
counted_from first step (Count n) = Ok (map value.Int (items_from first step n))
counted_from first step NoStep = Err ValueError
counted_from first step Past = Err ProfileError

abbrev pub range_of : ℤ → ℤ → ℤ → Answer (List Value)
range_of first end step = counted_from first step (range_length first end step)

abbrev pub range_by : List ℤ → Answer (List Value)
range_by (end ∷ []) = range_of (pos 0) end (pos 1)
range_by (first ∷ end ∷ []) = range_of first end (pos 1)
range_by (first ∷ end ∷ step ∷ []) = range_of first end step
range_by _ = Err TypeError

-- `range(end)`, `range(first, end)`, `range(first, end, step)`
abbrev pub range_items : List Value → Answer (List Value)
range_items args = do
  numbers ← numbers_in args
  range_by numbers

-- ---- tuples of two

abbrev pub couple : Value × Value → Value
couple pair = value.Tuple (pair.0 ∷ pair.1 ∷ [])

-- the tuples of these pairs, each within the limits
abbrev pub couples : List (Value × Value) → Answer (List Value)
couples pairs = if list_all (λ pair. in_limits (couple pair)) pairs then Ok (map couple pairs) else Err ProfileError

-- each item behind its place, counted from a number
abbrev pub numbered : ℕ → List Value → List (Value × Value)
numbered place [] = []
numbered place (item ∷ items) = (value.Int (pos place), item) ∷ numbered (place + 1) items

-- `enumerate(a)`
abbrev pub enumerate_items : Value → Answer (List Value)
enumerate_items a = do
  items ← iterate_of a
  couples (numbered 0 items)

-- `zip(a, b)`, where the items of `a` are at hand
abbrev pub zip_behind : List Value → Value → Answer (List Value)
zip_behind lefts b = do
  rights ← iterate_of b
  couples (zip lefts rights)

abbrev pub zip_items : Value → Value → Answer (List Value)
zip_items a b = do
  lefts ← iterate_of a
  zip_behind lefts b

-- ---- the views of a dictionary

abbrev pub pairs_in : Value-F Value → Answer (List (Value × Value))
pairs_in (v.Dict pairs) = Ok pairs
pairs_in _ = Err TypeError

abbrev pub a_dictionary : Value → Answer (List (Value × Value))
a_dictionary a = pairs_in (out-Value a)

-- the one argument, a dictionary
abbrev pub one_dictionary : List Value → Answer (List (Value × Value))
one_dictionary args = do
  a ← only args
  a_dictionary a

-- ---- the walks; a view's argument is the dictionary

abbrev pub items_of_walk : Walk → List Value → Answer (List Value)
items_of_walk walk.Range args = range_items args
items_of_walk walk.Enumerate args = do
  a ← only args
  enumerate_items a
items_of_walk walk.Zip args = do
  pair ← both args
  zip_items pair.0 pair.1
items_of_walk walk.Items args = do
  pairs ← one_dictionary args
  couples pairs
items_of_walk walk.Keys args = do
  pairs ← one_dictionary args
  Ok (map (λ p. p.0) pairs)
items_of_walk walk.Values args = do
  pairs ← one_dictionary args
  Ok (map (λ p. p.1) pairs)
