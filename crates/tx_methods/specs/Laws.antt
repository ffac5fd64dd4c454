-- Laws above the definitions, each on a function that does nothing but name the laws that it stands on.
use Rattle.std.specs.Prelude.{◌≡◌, ◌++◌, true, false, List, [], ◌∷◌, length, min, IfOk, IsOkAnd, Ok, Err}
use Rattle.std.specs.List.{AllByRecursion}
use Rattle.tx_base.specs.declared.class.Class.TheVariants.{TypeError}
use Rattle.tx_tree.specs.declared.function.Method.{Method}
use Rattle.tx_tree.specs.declared.function.Builtin.{Builtin}
use Rattle.tx_tree.specs.declared.function.Walk.{Walk}
use Rattle.tx_tree.specs.declared.function.Walk.TheVariants as walk
use Rattle.tx_values.specs.declared.value.Value.{Value}
use Rattle.tx_values.specs.Order.{less}
use Rattle.tx_values.specs.Valid.{valid}
use Rattle.tx_tree.specs.Takes.{allows, builtin_takes, method_takes}
use Rattle.tx_methods.specs.Walks.{iterate_of, items_of_walk}
use Rattle.tx_methods.specs.Builtins.{builtin_of, least_of, greatest_of}
use Rattle.tx_methods.specs.Methods.{has_method_of, method_of}

-- ---- of valid values the result is valid: `results_are_valid`

abbrev pub IsValid : Value → Type 0
IsValid a = valid a ≡ true

abbrev pub AreValid : List Value → Type 0
AreValid values = AllByRecursion IsValid values

abbrev pub BuiltinsLaw : Type 0
BuiltinsLaw = (b : Builtin) (args : List Value) → AreValid args → IfOk (builtin_of b args) IsValid

abbrev pub MethodsLaw : Type 0
MethodsLaw = (m : Method) (a : Value) (args : List Value) → IsValid a → AreValid args → IfOk (method_of m a args) IsValid

abbrev pub IterateLaw : Type 0
IterateLaw = (a : Value) → IsValid a → IfOk (iterate_of a) AreValid

abbrev pub WalksLaw : Type 0
WalksLaw = (w : Walk) (args : List Value) → AreValid args → IfOk (items_of_walk w args) AreValid

-- ---- `min` and `max`: `extremes_are_first`

-- no item is less than this one, which stands behind greater ones alone
pub record IsFirstLeast (items : List Value) (found : Value) : Type 0 where
  pub ahead : List Value
  pub behind : List Value
  pub whole : items ≡ ahead ++ (found ∷ behind)
  pub least : AllByRecursion (λ item. less item found ≡ Ok false) items
  pub first : AllByRecursion (λ item. less found item ≡ Ok true) ahead

-- no item is greater than this one, which stands behind lesser ones alone
pub record IsFirstGreatest (items : List Value) (found : Value) : Type 0 where
  pub ahead : List Value
  pub behind : List Value
  pub whole : items ≡ ahead ++ (found ∷ behind)
  pub greatest : AllByRecursion (λ item. less found item ≡ Ok false) items
  pub first : AllByRecursion (λ item. less item found ≡ Ok true) ahead

-- of numbers, and of texts
abbrev pub ExtremesLaw : (Value → Type 0) → Type 0
ExtremesLaw Is = (item : Value) (items : List Value) → AllByRecursion Is (item ∷ items)
    → IsOkAnd (least_of (item ∷ items)) (IsFirstLeast (item ∷ items))
    × IsOkAnd (greatest_of (item ∷ items)) (IsFirstGreatest (item ∷ items))

-- ---- the items of `zip` are as many as the shorter's: `zip_stops_at_the_shorter`

abbrev pub ZipLaw : Type 0
ZipLaw = (a b : Value) (xs ys : List Value) → iterate_of a ≡ Ok xs → iterate_of b ≡ Ok ys
    → IfOk (items_of_walk walk.Zip (a ∷ b ∷ [])) (λ items. length items ≡ min (length xs) (length ys))

-- ---- another number of arguments than is allowed is TypeError: `wrong_numbers_are_type_errors`

abbrev pub BuiltinTakesLaw : Type 0
BuiltinTakesLaw = (b : Builtin) (args : List Value) → allows (builtin_takes b) (length args) ≡ false → builtin_of b args ≡ Err TypeError

abbrev pub MethodTakesLaw : Type 0
MethodTakesLaw = (m : Method) (a : Value) (args : List Value) → has_method_of m a ≡ true
    → allows (method_takes m) (length args) ≡ false → method_of m a args ≡ Err TypeError
