-- The sum of what is left, an item more.
use Rattle.std.proofs.Common.{◌≡◌, List, ◌∷◌, Option, Some, None, Ok, Err, ℤ, refl}
use Rattle.std.specs.Prelude.{◌+ℤ◌, ok_or}
use Rattle.tx_base.specs.declared.class.Class.{Class}
use Rattle.tx_base.specs.declared.class.Class.TheVariants.{OverflowError, TypeError}
use Rattle.tx_num.specs.Number.{kept}
use Rattle.tx_values.specs.declared.value.Value.{Value, out-Value}
use Rattle.tx_methods.specs.Arguments.{a_number, integer_in}
use Rattle.tx_methods.specs.Calls.{sum_of_rest}

number_is : (o : Option ℤ) (n : ℤ) → ok_or o TypeError ≡ Ok n → o ≡ Some n
number_is None n e = cc
number_is (Some m) n e = cc

none_is : (o : Option ℤ) (c : Class) → ok_or o TypeError ≡ Err c → (o ≡ None) × (c ≡ TypeError)
none_is None c e = (refl, cc)
none_is (Some m) c e = cc

pub sum_stops : (total : ℤ) (item : Value) (items : List Value) (c : Class) → a_number item ≡ Err c → sum_of_rest total (item ∷ items) ≡ Err c
sum_stops total item items c e =
    let none = none_is (integer_in (out-Value item)) c e in
    rw (none.0, none.1) refl

pub sum_goes : (total : ℤ) (item : Value) (items : List Value) (n sum : ℤ) → a_number item ≡ Ok n → kept (total +ℤ n) ≡ Some sum → sum_of_rest total (item ∷ items) ≡ sum_of_rest sum items
sum_goes total item items n sum e f = rw (number_is (integer_in (out-Value item)) n e, f) refl

pub sum_past : (total : ℤ) (item : Value) (items : List Value) (n : ℤ) → a_number item ≡ Ok n → kept (total +ℤ n) ≡ None → sum_of_rest total (item ∷ items) ≡ Err OverflowError
sum_past total item items n e f = rw (number_is (integer_in (out-Value item)) n e, f) refl

pub ruleset sum_rules = (sum_stops, sum_goes, sum_past)
