-- What valid values give as items is valid, and there are not more of them than the limits allow.
use Rattle.std.proofs.Common.{◌≡◌, ◌≢◌, ℕ, zero, suc, ◌+◌, ◌<◌, ◌≤◌, ◌^◌, Bool, true, false, nat_le, List, [], ◌∷◌, length, map, Some, Ok, Err, ℤ, pos, negsuc, refl, subst, arith}
use Rattle.std.specs.Prelude.{◌+ℤ◌, ◌*ℤ◌, if◌then◌else◌, IfOk, ok_or, slice_get, zip}
use Rattle.std.specs.List.{AllByRecursion, list_all}
use Rattle.std.proofs.lemmas.Bool.Decides.{nat_tests}
use Rattle.std.proofs.lemmas.List.{length-map}
use Rattle.std.proofs.lemmas.List.Elements.{All-head, All-tail}
use Rattle.tx_base.specs.Width.{is_128_bit}
use Rattle.tx_base.specs.declared.class.Class.TheVariants.{TypeError, ProfileError}
use Rattle.tx_num.specs.Range.{RangeEndLaw, RangeItemsLaw, count_between, count_up_to_most, items_from, most_items}
use Rattle.tx_num.specs.declared.range.RangeLength.TheVariants.{Count, Past}
use Rattle.tx_tree.specs.declared.function.Walk.TheVariants as walk
use Rattle.tx_values.specs.declared.value.Value.{Value, out-Value}
use Rattle.tx_values.specs.declared.value.Value.TheVariants as value
use Rattle.tx_values.specs.declared.value.Value.TheOpen.{Value-F}
use Rattle.tx_values.specs.declared.value.Value.TheOpen as v
use Rattle.tx_values.specs.Answer.{◌>>=◌}
use Rattle.tx_values.specs.Laws.{ValidLaw, is_sound}
use Rattle.tx_values.specs.Limits.{in_limits, most_weight, weight, weight_of_items, weight_of_pairs}
use Rattle.tx_values.specs.Valid.{Parts}
use Rattle.tx_methods.specs.Arguments.{a_number, a_text, both, integer_in, only, text_in}
use Rattle.tx_methods.specs.Laws.{AreValid, IsValid, IterateLaw, WalksLaw}
use Rattle.tx_methods.specs.Walks.{a_dictionary, character, couple, couples, counted_from, items_in, iterate_of, numbered, numbers_in, one_dictionary, pairs_in, enumerate_items, range_by, range_of, zip_behind, zip_items}
use Rattle.tx_methods.proofs.Characters.{All-single}
use Rattle.tx_methods.proofs.CodePoints.{ArePoints, IsPoint, points_of}
use Rattle.tx_methods.proofs.RangeItems.{item_fits}
use Rattle.tx_methods.proofs.ValidValues.{first, second, goes_on, layer_weight, light, weighs_items, weighs_keys, int_valid, parts_of, small_valid, sound_of, text_valid, tuple_valid}

module _ (law : ValidLaw) where
  abbrev PairsValid : List (Value × Value) → Type 0
  PairsValid pairs = AllByRecursion {X = Value × Value} (λ p. IsValid p.0 × IsValid p.1) pairs

  -- ---- the items of a value

  characters_valid : (text : List ℕ) → ArePoints text → AreValid (map character text)
  characters_valid [] p = tt
  characters_valid (c ∷ text) p = (text_valid law (c ∷ []) (All-single IsPoint c (All-head IsPoint c text p)) (omega arith), characters_valid text (All-tail IsPoint c text p))

  pub keys_valid : (pairs : List (Value × Value)) → PairsValid pairs → AreValid (map (λ p. p.0) pairs)
  keys_valid [] h = tt
  keys_valid (p ∷ pairs) h = (h.0.0, keys_valid pairs h.1)

  pub values_valid : (pairs : List (Value × Value)) → PairsValid pairs → AreValid (map (λ p. p.1) pairs)
  values_valid [] h = tt
  values_valid (p ∷ pairs) h = (h.0.1, values_valid pairs h.1)

  items_valid : (x : Value-F Value) → is_sound x ≡ true → Parts IsValid x → IfOk (items_in x) AreValid
  items_valid (v.Text text) s h = characters_valid text (points_of text s)
  items_valid (v.Tuple items) s h = h
  items_valid (v.List items) s h = h
  items_valid (v.Dict pairs) s h = keys_valid pairs h
  items_valid v.Nil s h = tt
  items_valid (v.Truth b) s h = tt
  items_valid (v.Int n) s h = tt

  few_of : (items : List Value) → nat_le (weight_of_items (map weight items)) most_weight ≡ true → length items ≤ most_weight
  few_of items l = let w : length items ≤ weight_of_items (map weight items) = weighs_items items in grind (arith, nat_tests)

  few_keys : (pairs : List (Value × Value)) → nat_le (weight_of_pairs (map (λ p. (weight p.0, weight p.1)) pairs)) most_weight ≡ true → length (map {B = Value} (λ p. p.0) pairs) ≤ most_weight
  few_keys pairs l = let w : length (map {B = Value} (λ p. p.0) pairs) ≤ weight_of_pairs (map (λ p. (weight p.0, weight p.1)) pairs) = weighs_keys pairs in grind (arith, nat_tests)

  pub iterate_valid : IterateLaw
  iterate_valid a h = items_valid (out-Value a) (sound_of law a h) (parts_of law a h)

  few : (x : Value-F Value) → is_sound x ≡ true → Parts IsValid x → nat_le (layer_weight x) most_weight ≡ true → IfOk (items_in x) (λ items. AreValid items × (length items ≤ most_weight))
  few (v.Text text) s h l = (characters_valid text (points_of text s), (let e : length (map character text) ≡ length text = length-map text character in grind (arith, nat_tests)))
  few (v.Tuple items) s h l = (h, few_of items l)
  few (v.List items) s h l = (h, few_of items l)
  few (v.Dict pairs) s h l = (keys_valid pairs h, few_keys pairs l)
  few v.Nil s h l = tt
  few (v.Truth b) s h l = tt
  few (v.Int n) s h l = tt

  pub few_items : (a : Value) → IsValid a → IfOk (iterate_of a) (λ items. AreValid items × (length items ≤ most_weight))
  few_items a h = few (out-Value a) (sound_of law a h) (parts_of law a h) (light law a h)

  -- ---- arguments

  pub only_valid : (args : List Value) → AreValid args → IfOk (only args) IsValid
  only_valid [] h = tt
  only_valid (a ∷ []) h = h.0
  only_valid (a ∷ b ∷ args) h = tt

  pub both_valid : (args : List Value) → AreValid args → IfOk (both args) (λ p. IsValid p.0 × IsValid p.1)
  both_valid [] h = tt
  both_valid (a ∷ []) h = tt
  both_valid (a ∷ b ∷ []) h = (h.0, h.1.0)
  both_valid (a ∷ b ∷ c ∷ args) h = tt

  text_sound : (x : Value-F Value) → is_sound x ≡ true → IfOk (text_in x) ArePoints
  text_sound (v.Text text) e = points_of text e
  text_sound v.Nil e = tt
  text_sound (v.Truth b) e = tt
  text_sound (v.Int n) e = tt
  text_sound (v.Tuple items) e = tt
  text_sound (v.List items) e = tt
  text_sound (v.Dict pairs) e = tt

  pub a_text-points : (a : Value) → IsValid a → IfOk (a_text a) ArePoints
  a_text-points a h = text_sound (out-Value a) (sound_of law a h)

  number_sound : (x : Value-F Value) → is_sound x ≡ true → IfOk (ok_or (integer_in x) TypeError) (λ n. is_128_bit n ≡ true)
  number_sound (v.Truth true) e = refl
  number_sound (v.Truth false) e = refl
  number_sound (v.Int n) e = e
  number_sound v.Nil e = tt
  number_sound (v.Text text) e = tt
  number_sound (v.Tuple items) e = tt
  number_sound (v.List items) e = tt
  number_sound (v.Dict pairs) e = tt

  pub number_valid : (a : Value) → IsValid a → IfOk (a_number a) (λ n. is_128_bit n ≡ true)
  number_valid a h = number_sound (out-Value a) (sound_of law a h)

  numbers_valid : (args : List Value) → AreValid args → IfOk (numbers_in args) (AllByRecursion (λ n. is_128_bit n ≡ true))
  numbers_valid [] h = tt
  numbers_valid (a ∷ args) h =
      goes_on (λ n. is_128_bit n ≡ true) (AllByRecursion (λ n. is_128_bit n ≡ true)) (a_number a) (λ n. numbers_in args >>= (λ ns. Ok (n ∷ ns))) (number_valid a h.0)
      (λ n e. goes_on (AllByRecursion (λ n. is_128_bit n ≡ true)) (AllByRecursion (λ n. is_128_bit n ≡ true)) (numbers_in args) (λ ns. Ok (n ∷ ns)) (numbers_valid args h.1)
      (λ ns es. (e, es)))

  -- ---- `range`

  each_at : (P : ℤ → Type 0) (xs : List ℤ) → ((k : ℕ) (x : ℤ) → k < length xs → slice_get xs k ≡ Some x → P x) → AllByRecursion P xs
  each_at P [] f = tt
  each_at P (x ∷ xs) f = (f zero x (omega arith) refl, each_at P xs (λ k y h e. f (suc k) y (omega arith) e))

  ints_valid : (ns : List ℤ) → AllByRecursion (λ n. is_128_bit n ≡ true) ns → AreValid (map value.Int ns)
  ints_valid [] h = tt
  ints_valid (n ∷ ns) h = (int_valid law n h.0, ints_valid ns h.1)

  module _ (ends : RangeEndLaw) (items : RangeItemsLaw) where
    items_fit : (first end step : ℤ) (n : ℕ) → step ≢ pos 0 → n ≤ count_between first end step → is_128_bit first ≡ true → is_128_bit end ≡ true
        → AllByRecursion (λ x. is_128_bit x ≡ true) (items_from first step n)
    items_fit first end step n some within h l =
        each_at (λ x. is_128_bit x ≡ true) (items_from first step n) one
      where
        one : (k : ℕ) (x : ℤ) → k < length (items_from first step n) → slice_get (items_from first step n) k ≡ Some x → is_128_bit x ≡ true
        one k x less e =
            let many : length (items_from first step n) ≡ n = (items first step n).0 in
            let below : k < n = omega arith in
            let there : slice_get (items_from first step n) k ≡ Some (first +ℤ pos k *ℤ step) = (items first step n).1 k below in
            let is : first +ℤ pos k *ℤ step ≡ x = cc in
            subst (λ (y : ℤ). is_128_bit y ≡ true) is (item_fits first end step k h l ((ends first end step k some).0 (omega arith)))

    counted_valid : (first end step : ℤ) → step ≢ pos 0 → is_128_bit first ≡ true → is_128_bit end ≡ true
        → IfOk (counted_from first step (count_up_to_most (count_between first end step))) AreValid
    counted_valid first end step some h l = by_test (nat_le (count_between first end step) most_items)
      where
        by_test : (b : Bool) → IfOk (counted_from first step (if b then Count (count_between first end step) else Past)) AreValid
        by_test true = ints_valid (items_from first step (count_between first end step)) (items_fit first end step (count_between first end step) some (omega arith) h l)
        by_test false = tt

    range_valid : (first end step : ℤ) → is_128_bit first ≡ true → is_128_bit end ≡ true → IfOk (range_of first end step) AreValid
    range_valid first end (pos zero) h l = tt
    range_valid first end (pos (suc n)) h l = counted_valid first end (pos (suc n)) (λ e. cc) h l
    range_valid first end (negsuc n) h l = counted_valid first end (negsuc n) (λ e. cc) h l

    by_numbers : (ns : List ℤ) → AllByRecursion (λ n. is_128_bit n ≡ true) ns → IfOk (range_by ns) AreValid
    by_numbers [] h = tt
    by_numbers (a ∷ []) h = range_valid (pos 0) a (pos 1) refl h.0
    by_numbers (a ∷ b ∷ []) h = range_valid a b (pos 1) h.0 h.1.0
    by_numbers (a ∷ b ∷ c ∷ []) h = range_valid a b c h.0 h.1.0
    by_numbers (a ∷ b ∷ c ∷ d ∷ ns) h = tt

  -- ---- tuples of two

  couples_all : (pairs : List (Value × Value)) → list_all (λ pair. in_limits (couple pair)) pairs ≡ true → PairsValid pairs → AreValid (map couple pairs)
  couples_all [] e h = tt
  couples_all (p ∷ pairs) e h = (
    tuple_valid law (p.0 ∷ p.1 ∷ []) (first (in_limits (couple p)) (list_all (λ pair. in_limits (couple pair)) pairs) e) (h.0.0, (h.0.1, tt)),
    couples_all pairs (second (in_limits (couple p)) (list_all (λ pair. in_limits (couple pair)) pairs) e) h.1,
  )

  pub couples_valid : (pairs : List (Value × Value)) → PairsValid pairs → IfOk (couples pairs) AreValid
  couples_valid pairs h = by_test (list_all (λ pair. in_limits (couple pair)) pairs) refl
    where
      by_test : (b : Bool) → list_all (λ pair. in_limits (couple pair)) pairs ≡ b → IfOk (if b then Ok (map couple pairs) else Err ProfileError) AreValid
      by_test true e = couples_all pairs e h
      by_test false e = tt

  numbered_valid : (place : ℕ) (items : List Value) → place + length items ≤ 2 ^ 64 → AreValid items → PairsValid (numbered place items)
  numbered_valid place [] l h = tt
  numbered_valid place (item ∷ items) l h = ((small_valid law place (omega arith), h.0), numbered_valid (place + 1) items (omega arith) h.1)

  zip_valid : (xs ys : List Value) → AreValid xs → AreValid ys → PairsValid (zip xs ys)
  zip_valid [] ys h k = tt
  zip_valid (x ∷ xs) [] h k = tt
  zip_valid (x ∷ xs) (y ∷ ys) h k = ((h.0, k.0), zip_valid xs ys h.1 k.1)

  enumerate_valid : (a : Value) → IsValid a → IfOk (enumerate_items a) AreValid
  enumerate_valid a h =
      goes_on (λ items. AreValid items × (length items ≤ most_weight)) AreValid (iterate_of a) (λ items. couples (numbered 0 items))
      (few_items a h)
      (λ items k. couples_valid (numbered 0 items) (numbered_valid 0 items (omega (arith, k.1)) k.0))

  zipped_valid : (a b : Value) → IsValid a → IsValid b → IfOk (zip_items a b) AreValid
  zipped_valid a b h k =
      goes_on AreValid AreValid (iterate_of a) (λ lefts. zip_behind lefts b) (iterate_valid a h)
      (λ lefts l. goes_on AreValid AreValid (iterate_of b) (λ rights. couples (zip lefts rights)) (iterate_valid b k)
      (λ rights r. couples_valid (zip lefts rights) (zip_valid lefts rights l r)))

  pairs_in_valid : (x : Value-F Value) → Parts IsValid x → IfOk (pairs_in x) PairsValid
  pairs_in_valid (v.Dict pairs) h = h
  pairs_in_valid v.Nil h = tt
  pairs_in_valid (v.Truth b) h = tt
  pairs_in_valid (v.Int n) h = tt
  pairs_in_valid (v.Text text) h = tt
  pairs_in_valid (v.Tuple items) h = tt
  pairs_in_valid (v.List items) h = tt

  dictionary_valid : (args : List Value) → AreValid args → IfOk (one_dictionary args) PairsValid
  dictionary_valid args h =
      goes_on IsValid PairsValid (only args) a_dictionary (only_valid args h) (λ a k. pairs_in_valid (out-Value a) (parts_of law a k))

  pub walks_valid : RangeEndLaw → RangeItemsLaw → WalksLaw
  walks_valid ends items walk.Range args h =
      goes_on (AllByRecursion (λ n. is_128_bit n ≡ true)) AreValid (numbers_in args) range_by (numbers_valid args h) (by_numbers ends items)
  walks_valid ends items walk.Enumerate args h = goes_on IsValid AreValid (only args) enumerate_items (only_valid args h) enumerate_valid
  walks_valid ends items walk.Zip args h =
      goes_on (λ p. IsValid p.0 × IsValid p.1) AreValid (both args) (λ p. zip_items p.0 p.1) (both_valid args h) (λ p k. zipped_valid p.0 p.1 k.0 k.1)
  walks_valid ends items walk.Items args h = goes_on PairsValid AreValid (one_dictionary args) couples (dictionary_valid args h) couples_valid
  walks_valid ends items walk.Keys args h = goes_on PairsValid AreValid (one_dictionary args) (λ pairs. Ok (map (λ p. p.0) pairs)) (dictionary_valid args h) keys_valid
  walks_valid ends items walk.Values args h = goes_on PairsValid AreValid (one_dictionary args) (λ pairs. Ok (map (λ p. p.1) pairs)) (dictionary_valid args h) values_valid
