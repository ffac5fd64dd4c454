-- What the methods of texts give (Python's built-in types, "String Methods"): the definitions on code points, lifted to
-- values. Kinds of arguments come before their values, and the limits of the result last.
use Rattle.std.specs.Prelude.{ℕ, ◌^◌, Bool, true, false, nat_eq, nat_lt, if◌then◌else◌, List, [], ◌∷◌, map, ok_or, Option, Some, None, Ok, Err, ℤ, pos, negsuc}
use Rattle.std.specs.List.{ends_with}
use Rattle.tx_base.specs.declared.class.Class.TheVariants.{TypeError, ValueError, OverflowError, AttributeError, ProfileError}
use Rattle.tx_text.specs.Text.{begins, count_of, digits_of, filled, first_place, is_some_text, is_taken, joined, last_place, lower_of, pieces, replaced, stripped, upper_of, words}
use Rattle.tx_text.specs.declared.strip.Side.{Side}
use Rattle.tx_text.specs.declared.strip.Side.TheVariants.{Both, Left, Right}
use Rattle.tx_tree.specs.declared.function.Method.{Method}
use Rattle.tx_tree.specs.declared.function.Method.TheVariants as method
use Rattle.tx_values.specs.declared.value.Value.{Value, out-Value}
use Rattle.tx_values.specs.declared.value.Value.TheVariants as value
use Rattle.tx_values.specs.declared.value.Value.TheOpen.{Value-F}
use Rattle.tx_values.specs.declared.value.Value.TheOpen as v
use Rattle.tx_values.specs.Limits.{made}
use Rattle.tx_values.specs.Answer.{Answer, ◌>>=◌}
use Rattle.tx_methods.specs.Arguments.{a_text, one_number, one_text, only, optional_text, two_texts, without}
use Rattle.tx_methods.specs.Builtins.{natural}
use Rattle.tx_methods.specs.Walks.{iterate_of}

-- a text that may be longer than those that it is made of
abbrev pub made_text : List ℕ → Answer Value
made_text text = made (value.Text text)

-- ---- case and digits: on some characters the answer is outside of the profile

abbrev pub lower_text : List ℕ → Answer Value
lower_text text = do
  changed ← ok_or (lower_of text) ProfileError
  Ok (value.Text changed)

abbrev pub upper_text : List ℕ → Answer Value
upper_text text = do
  changed ← ok_or (upper_of text) ProfileError
  made_text changed

abbrev pub digit_test : List ℕ → Answer Value
digit_test text = do
  are_digits ← ok_or (digits_of text) ProfileError
  Ok (value.Truth are_digits)

-- ---- `strip` and its kin, `split`

abbrev pub strip_of : Side → List ℕ → List Value → Answer Value
strip_of side text args = do
  those ← optional_text args
  Ok (value.Text (stripped side (is_taken those) text))

abbrev pub pieces_at : List ℕ → Option (List ℕ) → Answer (List (List ℕ))
pieces_at text None = Ok (words text)
pieces_at text (Some sep) = if is_some_text sep then Ok (pieces sep text) else Err ValueError

abbrev pub pieces_list : List ℕ → Option (List ℕ) → Answer Value
pieces_list text sep = do
  found ← pieces_at text sep
  made (value.List (map value.Text found))

abbrev pub split_of : List ℕ → List Value → Answer Value
split_of text args = do
  sep ← optional_text args
  pieces_list text sep

-- ---- `replace`

abbrev pub replace_of : List ℕ → List Value → Answer Value
replace_of text args = do
  pair ← two_texts args
  made_text (replaced pair.0 pair.1 text)

-- ---- where a text stands, and how often

abbrev pub place_or_minus_one : Option ℕ → ℤ
place_or_minus_one None = negsuc 0
place_or_minus_one (Some place) = pos place

abbrev pub find_of : (List ℕ → List ℕ → Option ℕ) → List ℕ → List Value → Answer Value
find_of search text args = do
  part ← one_text args
  Ok (value.Int (place_or_minus_one (search part text)))

abbrev pub index_of : List ℕ → List Value → Answer Value
index_of text args = do
  part ← one_text args
  place ← ok_or (first_place part text) ValueError
  natural place

abbrev pub text_count_of : List ℕ → List Value → Answer Value
text_count_of text args = do
  part ← one_text args
  natural (count_of part text)

-- ---- `startswith`, `endswith`

-- a part stands at the end
abbrev pub ends : List ℕ → List ℕ → Bool
ends part text = ends_with nat_eq text part

-- of the items of a tuple in order: true at the first that fits, and one met before that must be a text
abbrev pub some_fits : (List ℕ → Bool) → List Value → Answer Bool
some_fits fits [] = Ok false
some_fits fits (item ∷ items) = do
  part ← a_text item
  if fits part then Ok true else some_fits fits items

abbrev pub fits_in : (List ℕ → Bool) → Value-F Value → Answer Bool
fits_in fits (v.Text part) = Ok (fits part)
fits_in fits (v.Tuple items) = some_fits fits items
fits_in fits _ = Err TypeError

abbrev pub fit_of : (List ℕ → Bool) → List Value → Answer Value
fit_of fits args = do
  arg ← only args
  answer ← fits_in fits (out-Value arg)
  Ok (value.Truth answer)

-- ---- `join`, `zfill`

abbrev pub texts_in : List Value → Answer (List (List ℕ))
texts_in [] = Ok []
texts_in (item ∷ items) = do
  text ← a_text item
  texts ← texts_in items
  Ok (text ∷ texts)

abbrev pub join_items : List ℕ → List Value → Answer Value
join_items sep items = do
  texts ← texts_in items
  made_text (joined sep texts)

abbrev pub join_value : List ℕ → Value → Answer Value
join_value sep a = do
  items ← iterate_of a
  join_items sep items

abbrev pub join_of : List ℕ → List Value → Answer Value
join_of sep args = do
  arg ← only args
  join_value sep arg

-- a width of 64 signed bits; one below 0 is as 0
abbrev pub width_of : ℤ → Answer ℕ
width_of (pos n) = if nat_lt n (2 ^ 63) then Ok n else Err OverflowError
width_of (negsuc n) = if nat_lt n (2 ^ 63) then Ok 0 else Err OverflowError

abbrev pub zfill_of : List ℕ → List Value → Answer Value
zfill_of text args = do
  n ← one_number args
  width ← width_of n
  made_text (filled width text)

-- ---- the table

abbrev pub text_method : Method → List ℕ → List Value → Answer Value
text_method method.Lower text args = without args (lower_text text)
text_method method.Upper text args = without args (upper_text text)
text_method method.Strip text args = strip_of Both text args
text_method method.Lstrip text args = strip_of Left text args
text_method method.Rstrip text args = strip_of Right text args
text_method method.Split text args = split_of text args
text_method method.Replace text args = replace_of text args
text_method method.Find text args = find_of first_place text args
text_method method.Rfind text args = find_of last_place text args
text_method method.Index text args = index_of text args
text_method method.Count text args = text_count_of text args
text_method method.StartsWith text args = fit_of (λ part. begins part text) args
text_method method.EndsWith text args = fit_of (λ part. ends part text) args
text_method method.Join text args = join_of text args
text_method method.Zfill text args = zfill_of text args
text_method method.IsDigit text args = without args (digit_test text)
text_method method.Get text args = Err AttributeError
