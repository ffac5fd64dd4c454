-- The order of values, layer by layer.
use Rattle.std.proofs.Common.{◌≡◌, ◌+◌, ◌<◌, ℕ, ℤ, Bool, true, false, List, [], ◌∷◌, Ok, Err, length, nat_lt, refl, sym, ap, ◌∙◌, arith}
use Rattle.std.specs.Prelude.{int_lt}
use Rattle.std.proofs.lemmas.Bool.Decides.{nat_tests}
use Rattle.std.proofs.lemmas.List.{drop_all, length-drop}
use Rattle.tx_base.specs.declared.class.Class.TheVariants.{TypeError}
use Rattle.tx_text.specs.Text as text
use Rattle.tx_values.specs.declared.value.Value.{Value, Nil, Truth, Int, Text, Tuple, List as Listed, Dict, out-Value, roll-Value, out-roll-Value, roll-out-Value, map-Value, para-roll-Value}
use Rattle.tx_values.specs.declared.value.Value.TheVariants.{outs-Nil, outs-Truth, outs-Int, outs-Text, outs-Tuple, outs-List, outs-Dict}
use Rattle.tx_values.specs.declared.value.Value.TheOpen.{Value-F}
use Rattle.tx_values.specs.declared.value.Value.TheOpen as v
use Rattle.tx_values.specs.Equality.{number_of}
use Rattle.tx_values.specs.Order.{Answer, Item, less, less_open}
use Rattle.tx_values.specs.Calls.Lists.{less_all}

-- the order of two layers
abbrev pub less_layer : Value-F Value → Value-F Value → Answer
less_layer x y = less_open (map-Value Value Item (λ p. (p, less p)) x) y

pub less_rolled : (x y : Value-F Value) → less (roll-Value x) (roll-Value y) ≡ less_layer x y
less_rolled x y = ap (λ (t : Value → Answer). t (roll-Value y)) (para-roll-Value (Value → Answer) (λ z b. less_open z (out-Value b)) x) ∙ ap (less_layer x) (out-roll-Value y)

-- any two values, by their layers
pub less_out : (a b : Value) → less a b ≡ less_layer (out-Value a) (out-Value b)
less_out a b = ap (λ (c : Value). less c b) (sym (roll-out-Value a)) ∙ (ap (less (roll-Value (out-Value a))) (sym (roll-out-Value b)) ∙ less_rolled (out-Value a) (out-Value b))

-- ---- by the first value's kind

by_first : (a b : Value) (x : Value-F Value) → out-Value a ≡ x → less a b ≡ less_layer x (out-Value b)
by_first a b x e = less_out a b ∙ ap (λ (z : Value-F Value). less_layer z (out-Value b)) e

pub less_nil : (b : Value) → less Nil b ≡ Err TypeError
less_nil b = by_first Nil b v.Nil outs-Nil

pub less_truth : (a : Bool) (b : Value) → less (Truth a) b ≡ less_layer (v.Truth a) (out-Value b)
less_truth a b = by_first (Truth a) b (v.Truth a) (outs-Truth a)

pub less_int : (m : ℤ) (b : Value) → less (Int m) b ≡ less_layer (v.Int m) (out-Value b)
less_int m b = by_first (Int m) b (v.Int m) (outs-Int m)

pub less_text : (s : List ℕ) (b : Value) → less (Text s) b ≡ less_layer (v.Text s) (out-Value b)
less_text s b = by_first (Text s) b (v.Text s) (outs-Text s)

pub less_tuple : (xs : List Value) (b : Value) → less (Tuple xs) b ≡ less_layer (v.Tuple xs) (out-Value b)
less_tuple xs b = by_first (Tuple xs) b (v.Tuple xs) (outs-Tuple xs)

pub less_list : (xs : List Value) (b : Value) → less (Listed xs) b ≡ less_layer (v.List xs) (out-Value b)
less_list xs b = by_first (Listed xs) b (v.List xs) (outs-List xs)

pub less_dict : (ps : List (Value × Value)) (b : Value) → less (Dict ps) b ≡ Err TypeError
less_dict ps b = by_first (Dict ps) b (v.Dict ps) (outs-Dict ps)

-- ---- two values of kinds that have an order

by_both : (a b : Value) (x y : Value-F Value) → out-Value a ≡ x → out-Value b ≡ y → less a b ≡ less_layer x y
by_both a b x y e f = by_first a b x e ∙ ap (less_layer x) f

pub less_truth_truth : (a b : Bool) → less (Truth a) (Truth b) ≡ Ok (int_lt (number_of a) (number_of b))
less_truth_truth a b = by_both (Truth a) (Truth b) (v.Truth a) (v.Truth b) (outs-Truth a) (outs-Truth b)

pub less_truth_int : (a : Bool) (n : ℤ) → less (Truth a) (Int n) ≡ Ok (int_lt (number_of a) n)
less_truth_int a n = by_both (Truth a) (Int n) (v.Truth a) (v.Int n) (outs-Truth a) (outs-Int n)

pub less_int_truth : (m : ℤ) (b : Bool) → less (Int m) (Truth b) ≡ Ok (int_lt m (number_of b))
less_int_truth m b = by_both (Int m) (Truth b) (v.Int m) (v.Truth b) (outs-Int m) (outs-Truth b)

pub less_int_int : (m n : ℤ) → less (Int m) (Int n) ≡ Ok (int_lt m n)
less_int_int m n = by_both (Int m) (Int n) (v.Int m) (v.Int n) (outs-Int m) (outs-Int n)

pub less_text_text : (s t : List ℕ) → less (Text s) (Text t) ≡ Ok (text.less s t)
less_text_text s t = by_both (Text s) (Text t) (v.Text s) (v.Text t) (outs-Text s) (outs-Text t)

pub less_tuple_tuple : (xs ys : List Value) → less (Tuple xs) (Tuple ys) ≡ less_all xs ys
less_tuple_tuple xs ys = by_both (Tuple xs) (Tuple ys) (v.Tuple xs) (v.Tuple ys) (outs-Tuple xs) (outs-Tuple ys)

pub less_list_list : (xs ys : List Value) → less (Listed xs) (Listed ys) ≡ less_all xs ys
less_list_list xs ys = by_both (Listed xs) (Listed ys) (v.List xs) (v.List ys) (outs-List xs) (outs-List ys)

-- ---- where one list has come to its end

pub less_none_left : (ys : List Value) → less_all [] ys ≡ Ok (nat_lt 0 (length ys))
less_none_left [] = refl
less_none_left (y ∷ ys) = grind (arith, nat_tests)

pub less_none_right : (xs : List Value) → less_all xs [] ≡ Ok false
less_none_right [] = refl
less_none_right (x ∷ xs) = refl

-- what the code of the order takes
pub ruleset less_laws = (less_nil, less_dict, less_truth_truth, less_truth_int, less_int_truth, less_int_int, less_text_text, less_tuple_tuple, less_list_list, less_none_left, less_none_right, drop_all, length-drop)

-- and, where it has opened the first value alone
pub ruleset less_kinds = (less_nil, less_truth, less_int, less_text, less_tuple, less_list, less_dict, outs-Nil, outs-Truth, outs-Int, outs-Text, outs-Tuple, outs-List, outs-Dict)
