-- What the built-in functions give (Python Library Reference, "Built-in Functions").
use Rattle.std.specs.Prelude.{ℕ, suc, Bool, true, false, if◌then◌else◌, List, [], ◌∷◌, length, codes, is_some, Option, Some, None, Ok, Err, ℤ, pos, negsuc}
use Rattle.std.specs.Fmt.{signed_decimal}
use Rattle.std.specs.List.{list_all, list_any}
use Rattle.tx_base.specs.declared.class.Class.TheVariants.{TypeError, ValueError, OverflowError, ProfileError}
use Rattle.tx_num.specs.Number.{kept}
use Rattle.tx_num.specs.Range.{sum_of}
use Rattle.tx_num.specs.ReadInt.{read_int}
use Rattle.tx_num.specs.declared.read.IntRead.{IntRead}
use Rattle.tx_num.specs.declared.read.IntRead.TheVariants as read
use Rattle.tx_tree.specs.declared.function.Builtin.{Builtin}
use Rattle.tx_tree.specs.declared.function.Builtin.TheVariants as builtin
use Rattle.tx_values.specs.declared.value.Value.{Value, out-Value}
use Rattle.tx_values.specs.declared.value.Value.TheVariants as value
use Rattle.tx_values.specs.declared.value.Value.TheOpen.{Value-F}
use Rattle.tx_values.specs.declared.value.Value.TheOpen as v
use Rattle.tx_values.specs.Equality.{number_of, truthy}
use Rattle.tx_values.specs.Limits.{made}
use Rattle.tx_values.specs.Order.{less}
use Rattle.tx_values.specs.Answer.{Answer, ◌>>=◌}
use Rattle.tx_methods.specs.Arguments.{only, a_number, integer_in}
use Rattle.tx_methods.specs.Walks.{iterate_of}

-- ---- functions of one value

abbrev pub natural : ℕ → Answer Value
natural n = Ok (value.Int (pos n))

-- `len(v)`: the characters of a text, the items of a tuple or list, the pairs of a dictionary
abbrev pub len_in : Value-F Value → Answer Value
len_in (v.Text text) = natural (length text)
len_in (v.Tuple items) = natural (length items)
len_in (v.List items) = natural (length items)
len_in (v.Dict pairs) = natural (length pairs)
len_in _ = Err TypeError

abbrev pub int_read : IntRead → Answer Value
int_read (read.Value n) = Ok (value.Int n)
int_read read.NotInt = Err ValueError
int_read read.Past = Err OverflowError
int_read read.OutOfProfile = Err ProfileError

-- `int(v)`: of a number, or of a text that writes one
abbrev pub int_in : Value-F Value → Answer Value
int_in (v.Truth b) = Ok (value.Int (number_of b))
int_in (v.Int n) = Ok (value.Int n)
int_in (v.Text text) = int_read (read_int text)
int_in _ = Err TypeError

-- `str(v)`: of all but a container, which is outside of the profile
abbrev pub str_in : Value-F Value → Answer Value
str_in v.Nil = Ok (value.Text (codes "None"))
str_in (v.Truth true) = Ok (value.Text (codes "True"))
str_in (v.Truth false) = Ok (value.Text (codes "False"))
str_in (v.Int n) = Ok (value.Text (signed_decimal n))
str_in (v.Text text) = Ok (value.Text text)
str_in _ = Err ProfileError

abbrev pub magnitude : ℤ → ℤ
magnitude (pos n) = pos n
magnitude (negsuc n) = pos (suc n)

-- an integer, where it has 128 bits
abbrev pub int_or_past : Option ℤ → Answer Value
int_or_past None = Err OverflowError
int_or_past (Some n) = Ok (value.Int n)

-- `abs(n)`
abbrev pub abs_of : Value → Answer Value
abs_of a = do
  n ← a_number a
  int_or_past (kept (magnitude n))

-- `ord(t)`: the code point of a text of one character
abbrev pub ord_in : Value-F Value → Answer Value
ord_in (v.Text (c ∷ [])) = natural c
ord_in _ = Err TypeError

-- ---- functions of items

-- the first that no later one is less than, where `kept` is it so far
abbrev pub least_from : Value → List Value → Answer Value
least_from kept [] = Ok kept
least_from kept (item ∷ items) = do
  is_less ← less item kept
  least_from (if is_less then item else kept) items

-- `min`
abbrev pub least_of : List Value → Answer Value
least_of [] = Err ValueError
least_of (item ∷ items) = least_from item items

-- the first that no later one is greater than
abbrev pub greatest_from : Value → List Value → Answer Value
greatest_from kept [] = Ok kept
greatest_from kept (item ∷ items) = do
  is_greater ← less kept item
  greatest_from (if is_greater then item else kept) items

-- `max`
abbrev pub greatest_of : List Value → Answer Value
greatest_of [] = Err ValueError
greatest_of (item ∷ items) = greatest_from item items

-- the numbers in front of the first item that is none, and whether there is no such item
abbrev pub onto_number : Option ℤ → List ℤ → List ℤ
onto_number None ns = []
onto_number (Some n) ns = n ∷ ns

abbrev pub numbers_ahead : List Value → List ℤ
numbers_ahead [] = []
numbers_ahead (item ∷ items) = onto_number (integer_in (out-Value item)) (numbers_ahead items)

abbrev pub is_number : Value → Bool
is_number a = is_some (integer_in (out-Value a))

-- `sum`: added to 0 in order; what is no number has no sum
abbrev pub sum_of_items : List Value → Answer Value
sum_of_items items = do
  total ← int_or_past (sum_of (numbers_ahead items))
  if list_all is_number items then Ok total else Err TypeError

-- what a function makes of the items that it goes through
abbrev pub of_items : Builtin → List Value → Answer Value
of_items builtin.Min items = least_of items
of_items builtin.Max items = greatest_of items
of_items builtin.Sum items = sum_of_items items
of_items builtin.Any items = Ok (value.Truth (list_any truthy items))
of_items builtin.All items = Ok (value.Truth (list_all truthy items))
of_items builtin.List items = made (value.List items)
of_items builtin.Tuple items = made (value.Tuple items)
of_items _ items = Err TypeError

-- the same of the items of a value
abbrev pub of_items_in : Builtin → Value → Answer Value
of_items_in b a = do
  items ← iterate_of a
  of_items b items

-- ---- the table

-- a function of one argument; one that is not named here goes through its items
abbrev pub of_value : Builtin → Value → Answer Value
of_value builtin.Len a = len_in (out-Value a)
of_value builtin.Int a = int_in (out-Value a)
of_value builtin.Str a = str_in (out-Value a)
of_value builtin.Bool a = Ok (value.Truth (truthy a))
of_value builtin.Abs a = abs_of a
of_value builtin.Ord a = ord_in (out-Value a)
of_value b a = of_items_in b a

-- of one argument its items, and of several these
abbrev pub of_candidates : Builtin → List Value → Answer Value
of_candidates b [] = Err TypeError
of_candidates b (a ∷ []) = of_items_in b a
of_candidates b args = of_items b args

-- a built-in function; another number of arguments than it takes is TypeError
abbrev pub builtin_of : Builtin → List Value → Answer Value
builtin_of builtin.Min args = of_candidates builtin.Min args
builtin_of builtin.Max args = of_candidates builtin.Max args
builtin_of b args = do
  a ← only args
  of_value b a
