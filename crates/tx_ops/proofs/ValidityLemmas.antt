-- What an operation makes of valid values is valid.
use Rattle.std.proofs.Common.{◌≡◌, ◌≢◌, ◌+◌, ◌≤◌, ◌&&◌, ◌++◌, ℕ, zero, suc, ℤ, pos, negsuc, Bool, true, false, List, [], ◌∷◌, Option, Some, None, Ok, Err, length, nat_le, nat_lt, slice_get, if◌then◌else◌, refl, sym, ap, subst, ◌∙◌, arith}
use Rattle.std.specs.Prelude.{◌+ℤ◌, ◌-ℤ◌, ◌*ℤ◌, neg_ℤ, ok_or}
use Rattle.std.specs.List.{AllByRecursion, list_all}
use Rattle.std.specs.Result.{result_unwrap_or}
use Rattle.std.proofs.lemmas.Bool.Decides.{nat_tests}
use Rattle.std.proofs.lemmas.Int.{ints}
use Rattle.std.proofs.lemmas.List.Elements.{All-from_recursion, recursion_from_All}
use Rattle.std.proofs.lemmas.List.Sums.{AllPass-from_list_all, list_all-from_AllPass}
use Rattle.tx_base.specs.Width.{is_128_bit}
use Rattle.tx_base.specs.declared.class.Class.TheVariants.{ProfileError, TypeError, IndexError, KeyError}
use Rattle.tx_num.specs.Number.{floor_quotient, floor_remainder, kept, value_or_past}
use Rattle.tx_num.specs.Laws.{FloorLaw, LiesBetween}
use Rattle.tx_num.specs.Place.{sliced, times_of}
use Rattle.tx_num.specs.declared.division.Division.TheVariants as division
use Rattle.tx_text.specs.Text.{repeated}
use Rattle.tx_tree.specs.declared.operator.BinaryOp.{BinaryOp}
use Rattle.tx_tree.specs.declared.operator.BinaryOp.TheVariants.{Add, Sub, Mul, FloorDiv, Mod}
use Rattle.tx_tree.specs.declared.operator.UnaryOp.{UnaryOp}
use Rattle.tx_tree.specs.declared.operator.UnaryOp.TheVariants.{Minus, Plus}
use Rattle.tx_values.specs.declared.value.Value.{Value, Int, Text, Tuple, List as Listed, out-Value, roll-out-Value, map-Value, fold-roll-Value}
use Rattle.tx_values.specs.declared.value.Value.TheVariants.{outs-Int, outs-Text, outs-Tuple, outs-List, rolls-Int}
use Rattle.tx_values.specs.declared.value.Value.TheOpen.{Value-F}
use Rattle.tx_values.specs.declared.value.Value.TheOpen as v
use Rattle.tx_values.specs.Answer.{Answer, ◌>>=◌}
use Rattle.tx_values.specs.Equality.{equal}
use Rattle.tx_values.specs.Laws.{ValidLaw, is_sound}
use Rattle.tx_values.specs.Limits.{depth, depth_step, in_limits, made, weight, weight_step}
use Rattle.tx_values.specs.Lookup.{value_under}
use Rattle.tx_values.specs.Operand.{Operand, number, text, tuple, list, dictionary, none, operand, operand_open}
use Rattle.tx_values.specs.Valid.{Parts, hashable, is_code_point}
use Rattle.tx_ops.specs.Overflow.{int_or_overflow}
use Rattle.tx_ops.specs.Binary.{binary_of, copies, difference, divided, product, quotient, remainder, repetition, sum}
use Rattle.tx_ops.specs.Unary.{itself, negation, unary_of}
use Rattle.tx_ops.specs.Index.{character_at, index_in, item_at, place_at, value_at}
use Rattle.tx_ops.specs.Slice.{bound_of, slice_in}
use Rattle.tx_ops.specs.Laws.{IsValid, ResultsAreValid}
use Rattle.tx_ops.proofs.LimitLemmas.{depth_list, depth_text, depth_tuple, depths, weight_list, weight_text, weight_tuple, weights}
use Rattle.tx_ops.proofs.SliceLemmas.{all_append, all_sliced, depths_sliced, length_sliced, weights_sliced}

pub ok_same : {A : Type 0} (x y : A) → ◌≡◌ {A = Answer A} (Ok x) (Ok y) → x ≡ y
ok_same x y e = ap (λ r. result_unwrap_or r x) e

-- a value that was made is within the limits
pub made_is : (a r : Value) → made a ≡ Ok r → (in_limits a ≡ true) × (a ≡ r)
made_is a r e = go (in_limits a) refl e
  where
    go : (b : Bool) → in_limits a ≡ b → (if b then Ok a else Err ProfileError) ≡ Ok r → (in_limits a ≡ true) × (a ≡ r)
    go true h e = (h, ok_same a r e)
    go false h e = cc

-- ---- what is known of an operand that is valid

abbrev AllValid : List Value → Type 0
AllValid xs = AllByRecursion IsValid xs

abbrev PairsValid : List (Value × Value) → Type 0
PairsValid ps = AllByRecursion {X = Value × Value} (λ p. IsValid p.0 × IsValid p.1) ps

abbrev IsPoint : ℕ → Type 0
IsPoint c = is_code_point c ≡ true

abbrev ArePoints : List ℕ → Type 0
ArePoints s = AllByRecursion IsPoint s

points_of : (s : List ℕ) → list_all is_code_point s ≡ true → ArePoints s
points_of s e = recursion_from_All IsPoint s (AllPass-from_list_all is_code_point s e)

points_are : (s : List ℕ) → ArePoints s → list_all is_code_point s ≡ true
points_are s h = list_all-from_AllPass is_code_point s (All-from_recursion IsPoint s h)

abbrev Within : ℕ → ℕ → Type 0
Within w d = (w ≤ 1048576) × (d ≤ 16)

abbrev Sound : Operand → Type 0
Sound (number n) = is_128_bit n ≡ true
Sound (text s) = Within (length s) 0 × ArePoints s
Sound (tuple xs) = Within (weights xs) (1 + depths xs) × AllValid xs
Sound (list xs) = Within (weights xs) (1 + depths xs) × AllValid xs
Sound (dictionary ps) = PairsValid ps
Sound none = Unit {0}

within_of : (w d : ℕ) → (nat_le w 1048576 && nat_le d 16) ≡ true → Within w d
within_of w d e = (grind (arith, nat_tests), grind (arith, nat_tests))

within_is : (w d : ℕ) → Within w d → (nat_le w 1048576 && nat_le d 16) ≡ true
within_is w d h = let a : w ≤ 1048576 = h.0 in let b : d ≤ 16 = h.1 in grind (arith, nat_tests)

abbrev layer_weight : Value-F Value → ℕ
layer_weight x = weight_step (map-Value Value ℕ weight x)

abbrev layer_depth : Value-F Value → ℕ
layer_depth x = depth_step (map-Value Value ℕ depth x)

sound_layer : (x : Value-F Value) → Within (layer_weight x) (layer_depth x) → is_sound x ≡ true → Parts IsValid x → Sound (operand_open x)
sound_layer v.Nil w s p = tt
sound_layer (v.Truth true) w s p = refl
sound_layer (v.Truth false) w s p = refl
sound_layer (v.Int n) w s p = s
sound_layer (v.Text t) w s p = (w, points_of t s)
sound_layer (v.Tuple xs) w s p = (w, p)
sound_layer (v.List xs) w s p = (w, p)
sound_layer (v.Dict ps) w s p = p

weight_out : (a : Value) → weight a ≡ layer_weight (out-Value a)
weight_out a = ap weight (sym (roll-out-Value a)) ∙ fold-roll-Value ℕ weight_step (out-Value a)

depth_out : (a : Value) → depth a ≡ layer_depth (out-Value a)
depth_out a = ap depth (sym (roll-out-Value a)) ∙ fold-roll-Value ℕ depth_step (out-Value a)

module _ (by_parts : ValidLaw) where
  pub sound_of : (a : Value) → IsValid a → Sound (operand a)
  sound_of a h =
      let told = (by_parts a).0 h in
      let within : Within (weight a) (depth a) = within_of (weight a) (depth a) told.0 in
      let here : Within (layer_weight (out-Value a)) (layer_depth (out-Value a)) = subst (λ (w : ℕ). Within w (layer_depth (out-Value a))) (weight_out a) (subst (λ (d : ℕ). Within (weight a) d) (depth_out a) within) in
      sound_layer (out-Value a) here told.1 told.2

  valid_from : (a : Value) (x : Value-F Value) → out-Value a ≡ x → in_limits a ≡ true → is_sound x ≡ true → Parts IsValid x → IsValid a
  valid_from a x e l s p = (by_parts a).1 (l, subst (λ (y : Value-F Value). is_sound y ≡ true) (sym e) s, subst (Parts IsValid) (sym e) p)

  -- ---- what is made

  limits_int : (n : ℤ) → in_limits (Int n) ≡ true
  limits_int n =
      let w : weight (Int n) ≡ 0 = ap weight (sym (rolls-Int n)) ∙ fold-roll-Value ℕ weight_step (v.Int n) in
      let d : depth (Int n) ≡ 0 = ap depth (sym (rolls-Int n)) ∙ fold-roll-Value ℕ depth_step (v.Int n) in
      rw (w, d) refl

  int_valid : (n : ℤ) → is_128_bit n ≡ true → IsValid (Int n)
  int_valid n e = valid_from (Int n) (v.Int n) (outs-Int n) (limits_int n) e tt

  kept_valid : (z : ℤ) (r : Value) → int_or_overflow (kept z) ≡ Ok r → IsValid r
  kept_valid z r e = go (is_128_bit z) refl e
    where
      go : (b : Bool) → is_128_bit z ≡ b → int_or_overflow (if b then Some z else None) ≡ Ok r → IsValid r
      go true h e = subst IsValid (ok_same (Int z) r e) (int_valid z h)
      go false h e = cc

  text_valid : (s : List ℕ) (r : Value) → ArePoints s → in_limits (Text s) ≡ true → Text s ≡ r → IsValid r
  text_valid s r h l e = subst IsValid e (valid_from (Text s) (v.Text s) (outs-Text s) l (points_are s h) tt)

  tuple_valid : (xs : List Value) (r : Value) → AllValid xs → in_limits (Tuple xs) ≡ true → Tuple xs ≡ r → IsValid r
  tuple_valid xs r h l e = subst IsValid e (valid_from (Tuple xs) (v.Tuple xs) (outs-Tuple xs) l refl h)

  list_valid : (xs : List Value) (r : Value) → AllValid xs → in_limits (Listed xs) ≡ true → Listed xs ≡ r → IsValid r
  list_valid xs r h l e = subst IsValid e (valid_from (Listed xs) (v.List xs) (outs-List xs) l refl h)

  made_text : (s : List ℕ) (r : Value) → ArePoints s → made (Text s) ≡ Ok r → IsValid r
  made_text s r h e = let told = made_is (Text s) r e in text_valid s r h told.0 told.1

  made_tuple : (xs : List Value) (r : Value) → AllValid xs → made (Tuple xs) ≡ Ok r → IsValid r
  made_tuple xs r h e = let told = made_is (Tuple xs) r e in tuple_valid xs r h told.0 told.1

  made_list : (xs : List Value) (r : Value) → AllValid xs → made (Listed xs) ≡ Ok r → IsValid r
  made_list xs r h e = let told = made_is (Listed xs) r e in list_valid xs r h told.0 told.1

  -- ---- sums and products

  sum_valid : (x y : Operand) → Sound x → Sound y → (r : Value) → sum x y ≡ Ok r → IsValid r
  sum_valid (number m) (number n) h k r e = kept_valid (m +ℤ n) r e
  sum_valid (text s) (text t) h k r e = made_text (s ++ t) r (all_append IsPoint s t h.1 k.1) e
  sum_valid (tuple xs) (tuple ys) h k r e = made_tuple (xs ++ ys) r (all_append IsValid xs ys h.1 k.1) e
  sum_valid (list xs) (list ys) h k r e = made_list (xs ++ ys) r (all_append IsValid xs ys h.1 k.1) e
  sum_valid _ _ h k r e = cc

  difference_valid : (x y : Operand) (r : Value) → difference x y ≡ Ok r → IsValid r
  difference_valid (number m) (number n) r e = kept_valid (m -ℤ n) r e
  difference_valid _ _ r e = cc

  all_copies : (times : ℕ) (xs : List Value) → AllValid xs → AllValid (copies times xs)
  all_copies zero xs h = tt
  all_copies (suc times) xs h = all_append IsValid xs (copies times xs) h (all_copies times xs h)

  all_repeated : (times : ℕ) (s : List ℕ) → ArePoints s → ArePoints (repeated times s)
  all_repeated zero s h = tt
  all_repeated (suc times) s h = all_append IsPoint s (repeated times s) h (all_repeated times s h)

  repetition_valid : (f : ℕ → Value) → ((times : ℕ) (r : Value) → made (f times) ≡ Ok r → IsValid r) → (o : Option ℕ) (r : Value) → repetition o f ≡ Ok r → IsValid r
  repetition_valid f h None r e = cc
  repetition_valid f h (Some times) r e = h times r e

  product_valid : (x y : Operand) → Sound x → Sound y → (r : Value) → product x y ≡ Ok r → IsValid r
  product_valid (number m) (number n) h k r e = kept_valid (m *ℤ n) r e
  product_valid (text s) (number n) h k r e = repetition_valid _ (λ times r e. made_text (repeated times s) r (all_repeated times s h.1) e) (times_of n) r e
  product_valid (number n) (text s) h k r e = repetition_valid _ (λ times r e. made_text (repeated times s) r (all_repeated times s k.1) e) (times_of n) r e
  product_valid (tuple xs) (number n) h k r e = repetition_valid _ (λ times r e. made_tuple (copies times xs) r (all_copies times xs h.1) e) (times_of n) r e
  product_valid (number n) (tuple xs) h k r e = repetition_valid _ (λ times r e. made_tuple (copies times xs) r (all_copies times xs k.1) e) (times_of n) r e
  product_valid (list xs) (number n) h k r e = repetition_valid _ (λ times r e. made_list (copies times xs) r (all_copies times xs h.1) e) (times_of n) r e
  product_valid (number n) (list xs) h k r e = repetition_valid _ (λ times r e. made_list (copies times xs) r (all_copies times xs k.1) e) (times_of n) r e
  product_valid _ _ h k r e = cc

  -- ---- quotients and remainders

  past_valid : (z : ℤ) (r : Value) → divided (value_or_past z) ≡ Ok r → IsValid r
  past_valid z r e = kept_valid z r (go (is_128_bit z) e)
    where
      go : (b : Bool) → divided (if b then division.Value z else division.Past) ≡ Ok r → int_or_overflow (if b then Some z else None) ≡ Ok r
      go true e = e
      go false e = cc

  quotient_valid : (x y : Operand) (r : Value) → quotient x y ≡ Ok r → IsValid r
  quotient_valid (number m) (number (pos zero)) r e = cc
  quotient_valid (number m) (number (pos (suc n))) r e = past_valid (floor_quotient m (pos (suc n))) r e
  quotient_valid (number m) (number (negsuc n)) r e = past_valid (floor_quotient m (negsuc n)) r e
  quotient_valid _ _ r e = cc

  smaller : (k b w : ℕ) → k ≤ b → nat_lt b w ≡ true → nat_lt k w ≡ true
  smaller k b w h e = grind (arith, nat_tests)

  between_valid : (n r : ℤ) → is_128_bit n ≡ true → LiesBetween n r → is_128_bit r ≡ true
  between_valid (pos b) (pos k) h l = smaller k b _ (omega (arith, ints, l.0, l.1)) h
  between_valid (pos b) (negsuc k) h l = absurd (omega (arith, ints, l.0, l.1))
  between_valid (negsuc b) (pos k) h l = smaller k b _ (omega (arith, ints, l.0, l.1)) h
  between_valid (negsuc b) (negsuc k) h l = smaller k b _ (omega (arith, ints, l.0, l.1)) h

  module _ (floors : FloorLaw) where
    rest_valid : (m n : ℤ) → n ≢ pos 0 → is_128_bit n ≡ true → IsValid (Int (floor_remainder m n))
    rest_valid m n some h = int_valid (floor_remainder m n) (between_valid n (floor_remainder m n) h (floors m n some).0.1)

    remainder_valid : (x y : Operand) → Sound y → (r : Value) → remainder x y ≡ Ok r → IsValid r
    remainder_valid (number m) (number (pos zero)) h r e = cc
    remainder_valid (number m) (number (pos (suc n))) h r e = subst IsValid (ok_same _ r e) (rest_valid m (pos (suc n)) (λ d. cc) h)
    remainder_valid (number m) (number (negsuc n)) h r e = subst IsValid (ok_same _ r e) (rest_valid m (negsuc n) (λ d. cc) h)
    remainder_valid _ _ h r e = cc

    binary_valid : (op : BinaryOp) (a b r : Value) → IsValid a → IsValid b → binary_of op a b ≡ Ok r → IsValid r
    binary_valid Add a b r h k e = sum_valid (operand a) (operand b) (sound_of a h) (sound_of b k) r e
    binary_valid Sub a b r h k e = difference_valid (operand a) (operand b) r e
    binary_valid Mul a b r h k e = product_valid (operand a) (operand b) (sound_of a h) (sound_of b k) r e
    binary_valid FloorDiv a b r h k e = quotient_valid (operand a) (operand b) r e
    binary_valid Mod a b r h k e = remainder_valid (operand a) (operand b) (sound_of b k) r e

  -- ---- signs

  negation_valid : (x : Operand) (r : Value) → negation x ≡ Ok r → IsValid r
  negation_valid (number n) r e = kept_valid (neg_ℤ n) r e
  negation_valid _ r e = cc

  itself_valid : (x : Operand) → Sound x → (r : Value) → itself x ≡ Ok r → IsValid r
  itself_valid (number n) h r e = subst IsValid (ok_same (Int n) r e) (int_valid n h)
  itself_valid _ h r e = cc

  unary_valid : (op : UnaryOp) (a r : Value) → IsValid a → unary_of op a ≡ Ok r → IsValid r
  unary_valid Minus a r h e = negation_valid (operand a) r e
  unary_valid Plus a r h e = itself_valid (operand a) (sound_of a h) r e

  -- ---- items

  -- what holds of all items holds of the one that is asked for
  module _ {A : Type 0} (P : A → Type 0) where
    all_at : (xs : List A) (place : ℕ) (x : A) → AllByRecursion P xs → ◌≡◌ {A = Answer A} (ok_or (slice_get xs place) IndexError) (Ok x) → P x
    all_at [] place x h e = cc
    all_at (y ∷ xs) zero x h e = subst P (ok_same y x e) h.0
    all_at (y ∷ xs) (suc place) x h e = all_at xs place x h.1 e

    item_all : (xs : List A) (at : Operand) (x : A) → AllByRecursion P xs → item_at xs at ≡ Ok x → P x
    item_all xs at x h e = go (place_at (length xs) at) e
      where
        go : (o : Answer ℕ) → (o >>= (λ place. ok_or (slice_get xs place) IndexError)) ≡ Ok x → P x
        go (Err c) e = cc
        go (Ok place) e = all_at xs place x h e

  one_character : (c : ℕ) (r : Value) → IsPoint c → ◌≡◌ {A = Answer Value} (Ok (Text (c ∷ []))) (Ok r) → IsValid r
  one_character c r h e = text_valid (c ∷ []) r (h, tt) (rw (weight_text (c ∷ []), depth_text (c ∷ [])) refl) (ok_same (Text (c ∷ [])) r e)

  character_valid : (s : List ℕ) (at : Operand) (r : Value) → ArePoints s → character_at s at ≡ Ok r → IsValid r
  character_valid s at r h e = go (item_at s at) (λ c d. item_all IsPoint s at c h d) e
    where
      go : (o : Answer ℕ) → ((c : ℕ) → o ≡ Ok c → IsPoint c) → (o >>= (λ c. Ok (Text (c ∷ [])))) ≡ Ok r → IsValid r
      go (Err c) k e = cc
      go (Ok c) k e = one_character c r (k c refl) e

  under_valid : (key : Value) (ps : List (Value × Value)) (r : Value) → PairsValid ps → ◌≡◌ {A = Answer Value} (ok_or (value_under key ps) KeyError) (Ok r) → IsValid r
  under_valid key [] r h e = cc
  under_valid key (p ∷ ps) r h e = go (equal key p.0) (under_valid key ps r h.1) e
    where
      go : (b : Bool) → (◌≡◌ {A = Answer Value} (ok_or (value_under key ps) KeyError) (Ok r) → IsValid r) → ◌≡◌ {A = Answer Value} (ok_or (if b then Some p.1 else value_under key ps) KeyError) (Ok r) → IsValid r
      go true rest e = subst IsValid (ok_same p.1 r e) h.0.1
      go false rest e = rest e

  value_valid : (ps : List (Value × Value)) (key r : Value) → PairsValid ps → value_at ps key ≡ Ok r → IsValid r
  value_valid ps key r h e = go (hashable key) e
    where
      go : (b : Bool) → (if b then ok_or (value_under key ps) KeyError else Err TypeError) ≡ Ok r → IsValid r
      go true e = under_valid key ps r h e
      go false e = cc

  index_valid : (x : Operand) → Sound x → (at r : Value) → index_in x at ≡ Ok r → IsValid r
  index_valid (text s) h at r e = character_valid s (operand at) r h.1 e
  index_valid (tuple xs) h at r e = item_all IsValid xs (operand at) r h.1 e
  index_valid (list xs) h at r e = item_all IsValid xs (operand at) r h.1 e
  index_valid (dictionary ps) h at r e = value_valid ps at r h e
  index_valid (number n) h at r e = cc
  index_valid none h at r e = cc

  -- ---- slices

  bound_within : (w d u e : ℕ) → w ≤ u → d ≤ e → Within u e → Within w d
  bound_within w d u e h k l = let a : u ≤ 1048576 = l.0 in let b : e ≤ 16 = l.1 in (omega arith, omega arith)

  text_part : (s : List ℕ) → Within (length s) 0 → ArePoints s → (start stop : Option ℤ) (r : Value) → ◌≡◌ {A = Answer Value} (Ok (Text (sliced (pos 1) start stop s))) (Ok r) → IsValid r
  text_part s h all start stop r e =
      let t : List ℕ = sliced (pos 1) start stop s in
      let part : Within (length t) 0 = bound_within (length t) 0 (length s) 0 (length_sliced start stop s) (omega arith) h in
      text_valid t r (all_sliced IsPoint start stop s all) (rw (weight_text t, depth_text t) (within_is (length t) 0 part)) (ok_same (Text t) r e)

  items_part : (xs : List Value) → Within (weights xs) (1 + depths xs) → (start stop : Option ℤ) → Within (weights (sliced (pos 1) start stop xs)) (1 + depths (sliced (pos 1) start stop xs))
  items_part xs h start stop =
      let less : depths (sliced (pos 1) start stop xs) ≤ depths xs = depths_sliced start stop xs in
      bound_within (weights (sliced (pos 1) start stop xs)) (1 + depths (sliced (pos 1) start stop xs)) (weights xs) (1 + depths xs) (weights_sliced start stop xs) (omega arith) h

  tuple_part : (xs : List Value) → Within (weights xs) (1 + depths xs) → AllValid xs → (start stop : Option ℤ) (r : Value) → ◌≡◌ {A = Answer Value} (Ok (Tuple (sliced (pos 1) start stop xs))) (Ok r) → IsValid r
  tuple_part xs h all start stop r e =
      let part : List Value = sliced (pos 1) start stop xs in
      tuple_valid part r (all_sliced IsValid start stop xs all) (rw (weight_tuple part, depth_tuple part) (within_is (weights part) (1 + depths part) (items_part xs h start stop))) (ok_same (Tuple part) r e)

  list_part : (xs : List Value) → Within (weights xs) (1 + depths xs) → AllValid xs → (start stop : Option ℤ) (r : Value) → ◌≡◌ {A = Answer Value} (Ok (Listed (sliced (pos 1) start stop xs))) (Ok r) → IsValid r
  list_part xs h all start stop r e =
      let part : List Value = sliced (pos 1) start stop xs in
      list_valid part r (all_sliced IsValid start stop xs all) (rw (weight_list part, depth_list part) (within_is (weights part) (1 + depths part) (items_part xs h start stop))) (ok_same (Listed part) r e)

  -- a slice whose bounds are told
  module _ {A : Type 0} (items : List A) (as_value : List A → Value) (each : (start stop : Option ℤ) (r : Value) → ◌≡◌ {A = Answer Value} (Ok (as_value (sliced (pos 1) start stop items))) (Ok r) → IsValid r) where
    by_bounds : (start stop : Answer (Option ℤ)) (r : Value) → ((start >>= (λ i. stop >>= (λ j. Ok (sliced (pos 1) i j items)))) >>= (λ part. Ok (as_value part))) ≡ Ok r → IsValid r
    by_bounds (Err c) stop r e = cc
    by_bounds (Ok i) (Err c) r e = cc
    by_bounds (Ok i) (Ok j) r e = each i j r e

  slice_valid : (x : Operand) → Sound x → (from to : Option Value) (r : Value) → slice_in x from to ≡ Ok r → IsValid r
  slice_valid (text s) h from to r e = by_bounds s Text (text_part s h.0 h.1) (bound_of from) (bound_of to) r e
  slice_valid (tuple xs) h from to r e = by_bounds xs Tuple (tuple_part xs h.0 h.1) (bound_of from) (bound_of to) r e
  slice_valid (list xs) h from to r e = by_bounds xs Listed (list_part xs h.0 h.1) (bound_of from) (bound_of to) r e
  slice_valid (dictionary ps) h from to r e = cc
  slice_valid (number n) h from to r e = cc
  slice_valid none h from to r e = cc

  pub all_results : FloorLaw → ResultsAreValid
  all_results floors = record {
    binary = binary_valid floors;
    unary = unary_valid;
    index = λ base at r h e. index_valid (operand base) (sound_of base h) at r e;
    slice = λ base from to r h e. slice_valid (operand base) (sound_of base h) from to r e;
  }
