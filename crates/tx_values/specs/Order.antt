-- The order of values (Python Language Reference, "Value comparisons"): a truth value, or TypeError.
use Rattle.std.specs.Prelude.{Bool, true, false, if◌then◌else◌, List, [], ◌∷◌, Result, Ok, Err, int_lt}
use Rattle.tx_base.specs.declared.class.Class.{Class}
use Rattle.tx_base.specs.declared.class.Class.TheVariants.{TypeError}
use Rattle.tx_text.specs.Text as text
use Rattle.tx_values.specs.declared.value.Value.{Value, out-Value, para-Value}
use Rattle.tx_values.specs.declared.value.Value.TheOpen.{Value-F}
use Rattle.tx_values.specs.declared.value.Value.TheOpen as v
use Rattle.tx_values.specs.Equality.{equal, number_of}

abbrev pub Answer : Type 0
Answer = Result Bool Class

-- an item, and whether it is before a value
abbrev pub Item : Type 0
Item = Value × (Value → Answer)

-- the first unequal items decide, and then the lengths
abbrev pub less_items : List Item → List Value → Answer
less_items [] [] = Ok false
less_items [] (y ∷ ys) = Ok true
less_items (x ∷ xs) [] = Ok false
less_items (x ∷ xs) (y ∷ ys) = if equal x.0 y then less_items xs ys else x.1 y

-- numbers; texts by code points; tuple with tuple and list with list; all else has no order
abbrev pub less_open : Value-F Item → Value-F Value → Answer
less_open (v.Truth a) (v.Truth b) = Ok (int_lt (number_of a) (number_of b))
less_open (v.Truth a) (v.Int n) = Ok (int_lt (number_of a) n)
less_open (v.Int m) (v.Truth b) = Ok (int_lt m (number_of b))
less_open (v.Int m) (v.Int n) = Ok (int_lt m n)
less_open (v.Text s) (v.Text t) = Ok (text.less s t)
less_open (v.Tuple xs) (v.Tuple ys) = less_items xs ys
less_open (v.List xs) (v.List ys) = less_items xs ys
less_open _ _ = Err TypeError

-- `a < b`
abbrev pub less : Value → Value → Answer
less = para-Value (Value → Answer) (λ x b. less_open x (out-Value b))
