-- What built-in functions give of valid values is valid.
use Rattle.std.proofs.Common.{◌≡◌, ℕ, suc, ◌<◌, ◌≤◌, ◌^◌, Bool, true, false, nat_le, nat_lt, lit<, List, [], ◌∷◌, length, Option, Some, None, Ok, Err, ℤ, pos, negsuc, refl, arith}
use Rattle.std.specs.Prelude.{codes, ◌+ℤ◌, ◌==◌, filter, if◌then◌else◌, IfOk, IfSome, option_and_then}
use Rattle.std.specs.Fmt.{decimal, signed_decimal}
use Rattle.std.specs.List.{list_all, list_any}
use Rattle.std.specs.Str.Parse.{digits_value}
use Rattle.std.proofs.lemmas.Bool.Decides.{nat_tests}
use Rattle.std.proofs.lemmas.Fmt.{length-decimal-le_wide}
use Rattle.tx_base.specs.Width.{is_128_bit}
use Rattle.tx_base.specs.declared.class.Class.TheVariants.{TypeError}
use Rattle.tx_text.specs.Text.{is_ascii_digit, is_blank, stripped}
use Rattle.tx_text.specs.declared.strip.Side.TheVariants.{Both}
use Rattle.tx_num.specs.Number.{kept}
use Rattle.tx_num.specs.Range.{sum_from, sum_of}
use Rattle.tx_num.specs.ReadInt.{is_number, is_outside, read_digits, read_int, read_signed, value_read, with_sign}
use Rattle.tx_num.specs.declared.read.IntRead.{IntRead}
use Rattle.tx_num.specs.declared.read.IntRead.TheVariants as read
use Rattle.tx_tree.specs.declared.function.Builtin.{Builtin}
use Rattle.tx_tree.specs.declared.function.Builtin.TheVariants as builtin
use Rattle.tx_values.specs.declared.value.Value.{Value, out-Value}
use Rattle.tx_values.specs.declared.value.Value.TheOpen.{Value-F}
use Rattle.tx_values.specs.declared.value.Value.TheOpen as v
use Rattle.tx_values.specs.Answer.{Answer, ◌>>=◌}
use Rattle.tx_values.specs.Equality.{truthy}
use Rattle.tx_values.specs.Laws.{ValidLaw, is_sound}
use Rattle.tx_values.specs.Limits.{most_weight}
use Rattle.tx_values.specs.Order.{less}
use Rattle.tx_values.specs.Valid.{code_point_end, is_code_point}
use Rattle.tx_methods.specs.Arguments.{a_number, only}
use Rattle.tx_methods.specs.Builtins as table
use Rattle.tx_methods.specs.Builtins.{abs_of, builtin_of, greatest_from, greatest_of, int_in, int_or_past, int_read, least_from, least_of, len_in, magnitude, numbers_ahead, of_candidates, of_items, of_items_in, of_value, ord_in, str_in, sum_of_items}
use Rattle.tx_methods.specs.Laws.{AreValid, BuiltinsLaw, IsValid}
use Rattle.tx_methods.proofs.CodePoints.{points_of, signed_points}
use Rattle.tx_methods.specs.Walks.{iterate_of}
use Rattle.tx_methods.proofs.ValidValues.{either, first, goes_on, int_valid, layer_weight, light, made_list, made_tuple, small_valid, sound_of, text_valid, truth_valid, weighs_items, weighs_pairs}
use Rattle.tx_methods.proofs.ValidItems.{iterate_valid, number_valid}

module _ (law : ValidLaw) where
  -- ---- integers

  kept_fits : (n : ℤ) → IfSome (kept n) (λ m. is_128_bit m ≡ true)
  kept_fits n = by_test (is_128_bit n) refl
    where
      by_test : (b : Bool) → is_128_bit n ≡ b → IfSome (if b then Some n else None) (λ m. is_128_bit m ≡ true)
      by_test true e = e
      by_test false e = tt

  int_or_past_valid : (o : Option ℤ) → IfSome o (λ m. is_128_bit m ≡ true) → IfOk (int_or_past o) IsValid
  int_or_past_valid None h = tt
  int_or_past_valid (Some n) h = int_valid law n h

  -- ---- `int`

  abbrev Reads : IntRead → Type 0
  Reads r = IfOk (int_read r) IsValid

  one_of : (b : Bool) (r s : IntRead) → Reads r → Reads s → Reads (if b then r else s)
  one_of true r s h k = h
  one_of false r s h k = k

  value_reads : (n : ℤ) → Reads (value_read n)
  value_reads n = by_test (is_128_bit n) refl
    where
      by_test : (b : Bool) → is_128_bit n ≡ b → Reads (if b then read.Value n else read.Past)
      by_test true e = int_valid law n e
      by_test false e = tt

  digits_read : (negative : Bool) (text : List ℕ) → Reads (read_digits negative text)
  digits_read negative text = one_of (is_number text) (value_read (with_sign negative (digits_value 10 (filter is_ascii_digit text)))) read.NotInt (value_reads (with_sign negative (digits_value 10 (filter is_ascii_digit text)))) tt

  signed_reads : (text : List ℕ) → Reads (read_signed text)
  signed_reads [] = tt
  signed_reads (c ∷ text) =
      one_of (c == 45) (read_digits true text) (if c == 43 then read_digits false text else read_digits false (c ∷ text)) (digits_read true text)
      (one_of (c == 43) (read_digits false text) (read_digits false (c ∷ text)) (digits_read false text) (digits_read false (c ∷ text)))

  text_reads : (text : List ℕ) → Reads (read_int text)
  text_reads text = one_of (list_any is_outside text) read.OutOfProfile (read_signed (stripped Both is_blank text)) tt (signed_reads (stripped Both is_blank text))

  int_valid_in : (x : Value-F Value) → is_sound x ≡ true → IfOk (int_in x) IsValid
  int_valid_in (v.Truth true) s = int_valid law (pos 1) refl
  int_valid_in (v.Truth false) s = int_valid law (pos 0) refl
  int_valid_in (v.Int n) s = int_valid law n s
  int_valid_in (v.Text text) s = text_reads text
  int_valid_in v.Nil s = tt
  int_valid_in (v.Tuple items) s = tt
  int_valid_in (v.List items) s = tt
  int_valid_in (v.Dict pairs) s = tt

  -- ---- `len`, `str`, `ord`

  len_valid : (x : Value-F Value) → nat_le (layer_weight x) most_weight ≡ true → IfOk (len_in x) IsValid
  len_valid (v.Text text) l = small_valid law (length text) (grind (arith, nat_tests))
  len_valid (v.Tuple items) l = small_valid law (length items) (let w = weighs_items items in grind (arith, nat_tests))
  len_valid (v.List items) l = small_valid law (length items) (let w = weighs_items items in grind (arith, nat_tests))
  len_valid (v.Dict pairs) l = small_valid law (length pairs) (let w = weighs_pairs pairs in grind (arith, nat_tests))
  len_valid v.Nil l = tt
  len_valid (v.Truth b) l = tt
  len_valid (v.Int n) l = tt

  short : (n : ℤ) → is_128_bit n ≡ true → length (signed_decimal n) ≤ most_weight
  short (pos n) e = let less : n < 10 ^ 39 = grind (arith, nat_tests) in let h : length (decimal n) ≤ 39 = length-decimal-le_wide 39 n (lit< tt) less (omega arith) in omega (arith, h)
  short (negsuc n) e = let less : suc n < 10 ^ 39 = grind (arith, nat_tests) in let h : length (decimal (suc n)) ≤ 39 = length-decimal-le_wide 39 (suc n) (lit< tt) less (omega arith) in omega (arith, h)

  str_valid : (x : Value-F Value) → is_sound x ≡ true → nat_le (layer_weight x) most_weight ≡ true → IfOk (str_in x) IsValid
  str_valid v.Nil s l = text_valid law (codes "None") (points_of (codes "None") refl) (omega arith)
  str_valid (v.Truth true) s l = text_valid law (codes "True") (points_of (codes "True") refl) (omega arith)
  str_valid (v.Truth false) s l = text_valid law (codes "False") (points_of (codes "False") refl) (omega arith)
  str_valid (v.Int n) s l = text_valid law (signed_decimal n) (signed_points n s) (short n s)
  str_valid (v.Text text) s l = text_valid law text (points_of text s) (grind (arith, nat_tests))
  str_valid (v.Tuple items) s l = tt
  str_valid (v.List items) s l = tt
  str_valid (v.Dict pairs) s l = tt

  ord_valid : (x : Value-F Value) → is_sound x ≡ true → IfOk (ord_in x) IsValid
  ord_valid (v.Text []) h = tt
  ord_valid (v.Text (c ∷ [])) h = small_valid law c (let low : nat_lt c code_point_end ≡ true = first (is_code_point c) true h in grind (arith, nat_tests))
  ord_valid (v.Text (c ∷ d ∷ text)) h = tt
  ord_valid v.Nil h = tt
  ord_valid (v.Truth b) h = tt
  ord_valid (v.Int n) h = tt
  ord_valid (v.Tuple items) h = tt
  ord_valid (v.List items) h = tt
  ord_valid (v.Dict pairs) h = tt

  -- ---- `min`, `max`, `sum`

  pick : (b : Bool) (x y : Value) → IsValid x → IsValid y → IsValid (if b then x else y)
  pick true x y h k = h
  pick false x y h k = k

  abbrev Any : Bool → Type 0
  Any b = Unit {0}

  some : (o : Answer Bool) → IfOk o Any
  some (Ok b) = tt
  some (Err c) = tt

  least_valid : (kept : Value) (items : List Value) → IsValid kept → AreValid items → IfOk (least_from kept items) IsValid
  least_valid kept [] h k = h
  least_valid kept (item ∷ items) h k =
      goes_on Any IsValid (less item kept) (λ b. least_from (if b then item else kept) items) (some (less item kept))
      (λ b u. least_valid (if b then item else kept) items (pick b item kept k.0 h) k.1)

  greatest_valid : (kept : Value) (items : List Value) → IsValid kept → AreValid items → IfOk (greatest_from kept items) IsValid
  greatest_valid kept [] h k = h
  greatest_valid kept (item ∷ items) h k =
      goes_on Any IsValid (less kept item) (λ b. greatest_from (if b then item else kept) items) (some (less kept item))
      (λ b u. greatest_valid (if b then item else kept) items (pick b item kept k.0 h) k.1)

  sum_fits : (total : ℤ) (ns : List ℤ) → is_128_bit total ≡ true → IfSome (sum_from total ns) (λ m. is_128_bit m ≡ true)
  sum_fits total [] h = h
  sum_fits total (n ∷ ns) h = by_sum (λ sum k. sum_fits sum ns k) (kept (total +ℤ n)) (kept_fits (total +ℤ n))
    where
      by_sum : ((sum : ℤ) → is_128_bit sum ≡ true → IfSome (sum_from sum ns) (λ m. is_128_bit m ≡ true)) → (o : Option ℤ) → IfSome o (λ m. is_128_bit m ≡ true) → IfSome (option_and_then (λ sum. sum_from sum ns) o) (λ m. is_128_bit m ≡ true)
      by_sum rest None k = tt
      by_sum rest (Some sum) k = rest sum k

  sum_valid : (items : List Value) → IfOk (sum_of_items items) IsValid
  sum_valid items =
      goes_on IsValid IsValid (int_or_past (sum_of (numbers_ahead items))) (λ total. if list_all table.is_number items then Ok total else Err TypeError)
      (int_or_past_valid (sum_of (numbers_ahead items)) (sum_fits (pos 0) (numbers_ahead items) refl))
      (λ total h. either IsValid (list_all table.is_number items) (Ok total) (Err TypeError) h tt)

  -- ---- the table

  items_valid : (b : Builtin) (items : List Value) → AreValid items → IfOk (of_items b items) IsValid
  items_valid builtin.Min [] h = tt
  items_valid builtin.Min (item ∷ items) h = least_valid item items h.0 h.1
  items_valid builtin.Max [] h = tt
  items_valid builtin.Max (item ∷ items) h = greatest_valid item items h.0 h.1
  items_valid builtin.Sum items h = sum_valid items
  items_valid builtin.Any items h = truth_valid law (list_any truthy items)
  items_valid builtin.All items h = truth_valid law (list_all truthy items)
  items_valid builtin.List items h = made_list law items h
  items_valid builtin.Tuple items h = made_tuple law items h
  items_valid builtin.Len items h = tt
  items_valid builtin.Int items h = tt
  items_valid builtin.Str items h = tt
  items_valid builtin.Bool items h = tt
  items_valid builtin.Abs items h = tt
  items_valid builtin.Ord items h = tt

  in_valid : (b : Builtin) (a : Value) → IsValid a → IfOk (of_items_in b a) IsValid
  in_valid b a h = goes_on AreValid IsValid (iterate_of a) (of_items b) (iterate_valid law a h) (items_valid b)

  abs_valid : (a : Value) → IsValid a → IfOk (abs_of a) IsValid
  abs_valid a h =
      goes_on (λ n. is_128_bit n ≡ true) IsValid (a_number a) (λ n. int_or_past (kept (magnitude n))) (number_valid law a h)
      (λ n e. int_or_past_valid (kept (magnitude n)) (kept_fits (magnitude n)))

  value_valid : (b : Builtin) (a : Value) → IsValid a → IfOk (of_value b a) IsValid
  value_valid builtin.Len a h = len_valid (out-Value a) (light law a h)
  value_valid builtin.Int a h = int_valid_in (out-Value a) (sound_of law a h)
  value_valid builtin.Str a h = str_valid (out-Value a) (sound_of law a h) (light law a h)
  value_valid builtin.Bool a h = truth_valid law (truthy a)
  value_valid builtin.Abs a h = abs_valid a h
  value_valid builtin.Ord a h = ord_valid (out-Value a) (sound_of law a h)
  value_valid builtin.Min a h = in_valid builtin.Min a h
  value_valid builtin.Max a h = in_valid builtin.Max a h
  value_valid builtin.Sum a h = in_valid builtin.Sum a h
  value_valid builtin.Any a h = in_valid builtin.Any a h
  value_valid builtin.All a h = in_valid builtin.All a h
  value_valid builtin.List a h = in_valid builtin.List a h
  value_valid builtin.Tuple a h = in_valid builtin.Tuple a h

  one_valid : (b : Builtin) (args : List Value) → AreValid args → IfOk (only args >>= of_value b) IsValid
  one_valid b [] h = tt
  one_valid b (a ∷ []) h = value_valid b a h.0
  one_valid b (a ∷ c ∷ args) h = tt

  of_valid_candidates : (b : Builtin) (args : List Value) → AreValid args → IfOk (of_candidates b args) IsValid
  of_valid_candidates b [] h = tt
  of_valid_candidates b (a ∷ []) h = in_valid b a h.0
  of_valid_candidates b (a ∷ c ∷ args) h = items_valid b (a ∷ c ∷ args) h

  pub builtins_valid : BuiltinsLaw
  builtins_valid builtin.Min args h = of_valid_candidates builtin.Min args h
  builtins_valid builtin.Max args h = of_valid_candidates builtin.Max args h
  builtins_valid builtin.Len args h = one_valid builtin.Len args h
  builtins_valid builtin.Int args h = one_valid builtin.Int args h
  builtins_valid builtin.Str args h = one_valid builtin.Str args h
  builtins_valid builtin.Bool args h = one_valid builtin.Bool args h
  builtins_valid builtin.Abs args h = one_valid builtin.Abs args h
  builtins_valid builtin.Sum args h = one_valid builtin.Sum args h
  builtins_valid builtin.Any args h = one_valid builtin.Any args h
  builtins_valid builtin.All args h = one_valid builtin.All args h
  builtins_valid builtin.Ord args h = one_valid builtin.Ord args h
  builtins_valid builtin.List args h = one_valid builtin.List args h
  builtins_valid builtin.Tuple args h = one_valid builtin.Tuple args h
