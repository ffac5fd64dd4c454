-- The cell rule: what a field is read as, and how a value is printed.
use Rattle.std.specs.Prelude.{ℕ, ◌==◌, ◌&&◌, ◌||◌, Bool, true, false, not, List, [], ◌∷◌, Option, Some, None, if◌then◌else◌, codes, encode_utf8_all}
use Rattle.std.specs.Fmt.{signed_decimal}
use Rattle.std.specs.List.{list_any}
use Rattle.std.specs.Str.{all_ascii_digits, bytes_eq, chars, is_utf8}
use Rattle.std.specs.Str.Parse.{signed_digits_value}
use Rattle.tx_base.specs.Width.{is_128_bit}
use Rattle.tx_values.specs.declared.value.Value.{Value, Nil, Truth, Int, Text, out-Value}
use Rattle.tx_values.specs.declared.value.Value.TheOpen.{Value-F}
use Rattle.tx_values.specs.declared.value.Value.TheOpen as v

-- ---- integers

abbrev pub minus : ℕ
minus = 45

abbrev pub zero_digit : ℕ
zero_digit = 48

abbrev pub without_minus : List ℕ → List ℕ
without_minus [] = []
without_minus (c ∷ cs) = if c == minus then cs else c ∷ cs

-- digits without a leading zero
abbrev pub is_positive : List ℕ → Bool
is_positive [] = false
is_positive (d ∷ ds) = not (d == zero_digit) && all_ascii_digits (d ∷ ds)

-- `0`, or an optional `-` and digits without a leading zero
abbrev pub is_numeral : List ℕ → Bool
is_numeral field = bytes_eq field (codes "0") || is_positive (without_minus field)

-- ---- from a field to a value

-- the empty field, and the words of a source that stand for None
abbrev pub is_null : List (List ℕ) → List ℕ → Bool
is_null words field = bytes_eq field [] || list_any (λ word. bytes_eq field (encode_utf8_all word)) words

-- a numeral within 128 bits is an integer, any other field a text
abbrev pub number_or_text : List ℕ → Value
number_or_text field = if is_numeral field && is_128_bit (signed_digits_value 10 field)
    then Int (signed_digits_value 10 field)
    else Text (chars field)

-- the value of a field of UTF-8, under the words that stand for None
abbrev pub value_of : List (List ℕ) → List ℕ → Value
value_of words field =
    if is_null words field then Nil
    else if bytes_eq field (codes "True") then Truth true
    else if bytes_eq field (codes "False") then Truth false
    else number_or_text field

-- what a field is read as: none where its bytes are no UTF-8
abbrev pub read : List (List ℕ) → List ℕ → Option Value
read words field = if is_utf8 field then Some (value_of words field) else None

-- ---- from a value to a field

abbrev pub is_scalar_open : Value-F Value → Bool
is_scalar_open (v.Tuple items) = false
is_scalar_open (v.List items) = false
is_scalar_open (v.Dict pairs) = false
is_scalar_open _ = true

-- all but the containers
abbrev pub is_scalar : Value → Bool
is_scalar a = is_scalar_open (out-Value a)

abbrev pub text_open : Value-F Value → List ℕ
text_open (v.Truth b) = if b then codes "True" else codes "False"
text_open (v.Int n) = signed_decimal n
text_open (v.Text text) = text
text_open _ = []

-- the characters of a cell: none of None
abbrev pub text_of : Value → List ℕ
text_of a = text_open (out-Value a)

-- their bytes
abbrev pub field_of : Value → List ℕ
field_of a = encode_utf8_all (text_of a)

-- how a value is printed: a container has no cell
abbrev pub print : Value → Option (List ℕ)
print a = if is_scalar a then Some (field_of a) else None
