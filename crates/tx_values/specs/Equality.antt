-- Equality and truth of values (Python Language Reference, "Value comparisons" and "Boolean operations"). Equality is one
-- step over a layer of the first value, whose parts are already tests, and a layer of the second.
use Rattle.std.specs.Prelude.{ℕ, Bool, true, false, not, ◌&&◌, ◌==◌, nat_eq, List, [], ◌∷◌, length, ℤ, pos}
use Rattle.std.specs.List.{list_any, list_all}
use Rattle.std.specs.Ordering.{int_eq}
use Rattle.std.specs.Cmp.Lexicographic.{pointwise}
use Rattle.tx_values.specs.declared.value.Value.{Value, out-Value, fold-Value}
use Rattle.tx_values.specs.declared.value.Value.TheOpen.{Value-F}
use Rattle.tx_values.specs.declared.value.Value.TheOpen as v

-- truth values are the numbers 0 and 1
abbrev pub number_of : Bool → ℤ
number_of true = pos 1
number_of false = pos 0

-- the same characters
abbrev pub same_text : List ℕ → List ℕ → Bool
same_text = pointwise nat_eq

-- whether a value is equal to the one that the test is of
abbrev pub Test : Type 0
Test = Value → Bool

-- some pair has an equal key and an equal value
abbrev pub has_pair : List (Value × Value) → Test × Test → Bool
has_pair pairs test = list_any (λ p. test.0 p.0 && test.1 p.1) pairs

-- numbers by value; texts by characters; tuple with tuple and list with list item by item; of dictionaries as many pairs,
-- and each pair of the first has an equal one in the second; values of other kinds are unequal
abbrev pub equal_open : Value-F Test → Value-F Value → Bool
equal_open v.Nil v.Nil = true
equal_open (v.Truth a) (v.Truth b) = int_eq (number_of a) (number_of b)
equal_open (v.Truth a) (v.Int n) = int_eq (number_of a) n
equal_open (v.Int m) (v.Truth b) = int_eq m (number_of b)
equal_open (v.Int m) (v.Int n) = int_eq m n
equal_open (v.Text s) (v.Text t) = same_text s t
equal_open (v.Tuple tests) (v.Tuple items) = pointwise (λ test item. test item) tests items
equal_open (v.List tests) (v.List items) = pointwise (λ test item. test item) tests items
equal_open (v.Dict tests) (v.Dict pairs) = (length tests == length pairs) && list_all (has_pair pairs) tests
equal_open _ _ = false

-- `a == b`
abbrev pub equal : Value → Value → Bool
equal = fold-Value Test (λ x b. equal_open x (out-Value b))

-- ---- truth

abbrev pub is_some_list : {A : Type 0} → List A → Bool
is_some_list [] = false
is_some_list (x ∷ xs) = true

-- None, False, 0 and what is empty are false, all else is true
abbrev pub truthy_open : Value-F Value → Bool
truthy_open v.Nil = false
truthy_open (v.Truth b) = b
truthy_open (v.Int n) = not (int_eq n (pos 0))
truthy_open (v.Text text) = is_some_list text
truthy_open (v.Tuple items) = is_some_list items
truthy_open (v.List items) = is_some_list items
truthy_open (v.Dict pairs) = is_some_list pairs

-- `bool(a)`
abbrev pub truthy : Value → Bool
truthy a = truthy_open (out-Value a)
