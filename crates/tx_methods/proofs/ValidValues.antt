-- Valid values: what makes one, and what its parts are.
use Rattle.std.proofs.Common.{◌≡◌, ◌∙◌, ℕ, ◌≤◌, ◌^◌, ◌&&◌, Bool, true, false, nat_le, List, [], ◌∷◌, length, map, Ok, Err, ℤ, pos, refl, sym, ap, subst, arith}
use Rattle.std.specs.Prelude.{if◌then◌else◌, IfOk}
use Rattle.std.proofs.lemmas.Bool.{true≢false}
use Rattle.std.proofs.lemmas.Bool.Decides.{nat_tests}
use Rattle.std.proofs.lemmas.List.Sums.{list_all-from_AllPass}
use Rattle.tx_base.specs.Width.{is_128_bit}
use Rattle.tx_base.specs.declared.class.Class.TheVariants.{ProfileError}
use Rattle.tx_values.specs.declared.value.Value.{Value, out-Value, roll-Value, roll-out-Value, map-Value, fold-roll-Value}
use Rattle.tx_values.specs.declared.value.Value.TheVariants.{rolls-Nil, rolls-Truth, rolls-Int, rolls-Text, rolls-Tuple, rolls-List}
use Rattle.tx_values.specs.declared.value.Value.TheVariants as value
use Rattle.tx_values.specs.declared.value.Value.TheOpen.{Value-F}
use Rattle.tx_values.specs.declared.value.Value.TheOpen as v
use Rattle.tx_values.specs.Answer.{Answer, ◌>>=◌}
use Rattle.tx_values.specs.Laws.{ValidLaw, is_sound}
use Rattle.tx_values.specs.Limits.{depth, depth_step, in_limits, made, most_weight, weight, weight_of_items, weight_of_pairs, weight_step}
use Rattle.tx_values.specs.Valid.{Parts, is_code_point}
use Rattle.tx_methods.specs.Laws.{AreValid, IsValid}
use Rattle.tx_methods.proofs.CodePoints.{ArePoints}
use Rattle.tx_methods.proofs.Layers.{opened}

-- ---- answers

pub goes_on : {A B : Type 0} (P : A → Type 0) (Q : B → Type 0) (o : Answer A) (f : A → Answer B) → IfOk o P → ((a : A) → P a → IfOk (f a) Q) → IfOk (o >>= f) Q
goes_on P Q (Ok a) f h k = k a h
goes_on P Q (Err c) f h k = tt

pub either : {A : Type 0} (P : A → Type 0) (b : Bool) (r s : Answer A) → IfOk r P → IfOk s P → IfOk (if b then r else s) P
either P true r s h k = h
either P false r s h k = k

-- ---- one layer of a value

abbrev pub layer_weight : Value-F Value → ℕ
layer_weight x = weight_step (map-Value Value ℕ weight x)

abbrev layer_depth : Value-F Value → ℕ
layer_depth x = depth_step (map-Value Value ℕ depth x)

and_true : (b : Bool) → b ≡ true → (b && true) ≡ true
and_true b e = rw e refl

at_most : (n m : ℕ) → n ≤ m → nat_le n m ≡ true
at_most n m h = grind (arith, nat_tests)

small : (n : ℕ) → n ≤ 2 ^ 64 → is_128_bit (pos n) ≡ true
small n h = grind (arith, nat_tests)

-- ---- values

module _ (law : ValidLaw) where
  pub in_limits_of : (a : Value) → IsValid a → in_limits a ≡ true
  in_limits_of a h = ((law a).0 h).0

  pub sound_of : (a : Value) → IsValid a → is_sound (out-Value a) ≡ true
  sound_of a h = ((law a).0 h).1

  pub parts_of : (a : Value) → IsValid a → Parts IsValid (out-Value a)
  parts_of a h = ((law a).0 h).2

  -- a value is valid where its layer is
  rolled : (x : Value-F Value) (a : Value) → roll-Value x ≡ a → in_limits a ≡ true → is_sound x ≡ true → Parts IsValid x → IsValid a
  rolled x a e l s h =
      (law a).1
      (l, subst (λ (y : Value-F Value). is_sound y ≡ true) (sym (opened x a e)) s, subst (λ (y : Value-F Value). Parts IsValid y) (sym (opened x a e)) h)

  -- a scalar weighs nothing, but for a text
  scalar : (x : Value-F Value) (a : Value) → roll-Value x ≡ a → (nat_le (layer_weight x) most_weight && nat_le (layer_depth x) 16) ≡ true → is_sound x ≡ true → Parts IsValid x → IsValid a
  scalar x a e l =
      rolled x a e
      (ap (λ w. nat_le w most_weight && nat_le (depth a) 16) (ap weight (sym e) ∙ fold-roll-Value ℕ weight_step x)
      ∙ ap (λ d. nat_le (layer_weight x) most_weight && nat_le d 16) (ap depth (sym e) ∙ fold-roll-Value ℕ depth_step x)
      ∙ l)

  pub int_valid : (n : ℤ) → is_128_bit n ≡ true → IsValid (value.Int n)
  int_valid n e = scalar (v.Int n) (value.Int n) (rolls-Int n) refl e tt

  pub small_valid : (n : ℕ) → n ≤ 2 ^ 64 → IsValid (value.Int (pos n))
  small_valid n h = int_valid (pos n) (small n h)

  pub truth_valid : (b : Bool) → IsValid (value.Truth b)
  truth_valid b = scalar (v.Truth b) (value.Truth b) (rolls-Truth b) refl refl tt

  pub none_valid : IsValid value.Nil
  none_valid = scalar v.Nil value.Nil rolls-Nil refl refl tt

  pub text_valid : (text : List ℕ) → ArePoints text → length text ≤ most_weight → IsValid (value.Text text)
  text_valid text p h =
      scalar (v.Text text) (value.Text text) (rolls-Text text) (and_true (nat_le (length text) most_weight) (at_most (length text) most_weight h))
      (list_all-from_AllPass is_code_point text p) tt

  pub list_valid : (items : List Value) → in_limits (value.List items) ≡ true → AreValid items → IsValid (value.List items)
  list_valid items l h = rolled (v.List items) (value.List items) (rolls-List items) l refl h

  pub tuple_valid : (items : List Value) → in_limits (value.Tuple items) ≡ true → AreValid items → IsValid (value.Tuple items)
  tuple_valid items l h = rolled (v.Tuple items) (value.Tuple items) (rolls-Tuple items) l refl h

  pub made_list : (items : List Value) → AreValid items → IfOk (made (value.List items)) IsValid
  made_list items h = by_limits (in_limits (value.List items)) refl
    where
      by_limits : (b : Bool) → in_limits (value.List items) ≡ b → IfOk (if b then Ok (value.List items) else Err ProfileError) IsValid
      by_limits true e = list_valid items e h
      by_limits false e = tt

  pub made_tuple : (items : List Value) → AreValid items → IfOk (made (value.Tuple items)) IsValid
  made_tuple items h = by_limits (in_limits (value.Tuple items)) refl
    where
      by_limits : (b : Bool) → in_limits (value.Tuple items) ≡ b → IfOk (if b then Ok (value.Tuple items) else Err ProfileError) IsValid
      by_limits true e = tuple_valid items e h
      by_limits false e = tt

  pub made_text_valid : (text : List ℕ) → ArePoints text → IfOk (made (value.Text text)) IsValid
  made_text_valid text p = by_limits (in_limits (value.Text text)) refl
    where
      by_limits : (b : Bool) → in_limits (value.Text text) ≡ b → IfOk (if b then Ok (value.Text text) else Err ProfileError) IsValid
      by_limits true e = rolled (v.Text text) (value.Text text) (rolls-Text text) e (list_all-from_AllPass is_code_point text p) tt
      by_limits false e = tt

-- ---- tests

pub first : (a b : Bool) → (a && b) ≡ true → a ≡ true
first true b p = refl
first false b p = p

pub second : (a b : Bool) → (a && b) ≡ true → b ≡ true
second true b p = p
second false b p = absurd (true≢false (sym p))

-- ---- how many parts there are

pub weighs_items : (items : List Value) → length items ≤ weight_of_items (map weight items)
weighs_items [] = omega arith
weighs_items (item ∷ items) = let h : length items ≤ weight_of_items (map weight items) = weighs_items items in omega (arith, h)

pub weighs_keys : (pairs : List (Value × Value)) → length (map {B = Value} (λ p. p.0) pairs) ≤ weight_of_pairs (map (λ p. (weight p.0, weight p.1)) pairs)
weighs_keys [] = omega arith
weighs_keys (p ∷ pairs) =
    let h : length (map {B = Value} (λ q. q.0) pairs) ≤ weight_of_pairs (map (λ q. (weight q.0, weight q.1)) pairs) = weighs_keys pairs in
    omega (arith, h)

pub weighs_pairs : (pairs : List (Value × Value)) → length pairs ≤ weight_of_pairs (map (λ p. (weight p.0, weight p.1)) pairs)
weighs_pairs [] = omega arith
weighs_pairs (p ∷ pairs) =
    let h : length pairs ≤ weight_of_pairs (map (λ q. (weight q.0, weight q.1)) pairs) = weighs_pairs pairs in
    omega (arith, h)

pub light : ValidLaw → (a : Value) → IsValid a → nat_le (layer_weight (out-Value a)) most_weight ≡ true
light law a h =
    let whole : weight a ≡ layer_weight (out-Value a) = ap weight (sym (roll-out-Value a)) ∙ fold-roll-Value ℕ weight_step (out-Value a) in
    subst (λ (w : ℕ). nat_le w most_weight ≡ true) whole (first (nat_le (weight a) most_weight) (nat_le (depth a) 16) (in_limits_of law a h))
