-- What an operator makes of one evaluation: the value of its function, or what its handlers make of the class that is raised.
-- `F` is what functions are, and `evaluate` what they mean.
use Rattle.std.specs.Prelude.{ℕ, ◌+◌, ◌==◌, Bool, true, false, if◌then◌else◌, List, [], ◌∷◌, length, Ok, Err}
use Rattle.std.specs.List.{list_any}
use Rattle.tx_base.specs.declared.class.Class.{Class}
use Rattle.tx_base.specs.declared.class.Class.TheVariants.{TypeError}
use Rattle.tx_base.specs.Class.{catches}
use Rattle.tx_values.specs.declared.value.Value.{Value, out-Value}
use Rattle.tx_values.specs.declared.value.Value.TheOpen.{Value-F}
use Rattle.tx_values.specs.declared.value.Value.TheOpen as v
use Rattle.tx_values.specs.Answer.{Answer, ◌>>=◌}
use Rattle.tx_meaning.specs.Maps as maps
use Rattle.tx_pipe.specs.Pipe.{Handling, resolve, ignore}
use Rattle.tx_plain.specs.declared.handling.Want.{Want}
use Rattle.tx_plain.specs.declared.handling.Want.TheVariants as want
use Rattle.tx_plain.specs.declared.handling.Handled.{Handled}
use Rattle.tx_plain.specs.declared.handling.Handled.TheVariants as is

-- what a function is evaluated on: the cells of a row by their columns, and the values of its parameters
pub record Input : Type 0 where
  pub cells : maps.Row
  pub values : List Value

-- ---- the wanted shape of a result

abbrev pub is_tuple_of : ℕ → Value-F Value → Bool
is_tuple_of n (v.Tuple items) = length items == n
is_tuple_of n _ = false

abbrev pub is_wanted : Want → Value → Bool
is_wanted want.Any x = true
is_wanted (want.TupleOf n) x = is_tuple_of n (out-Value x)

-- a result of another shape counts as TypeError
abbrev pub wanted : Want → Value → Answer Value
wanted shape x = if is_wanted shape x then Ok x else Err TypeError

-- ---- handlers

-- a value stands, and a class that is raised is looked up
abbrev pub settled : (Class → Handled) → Answer Value → Handled
settled search_for (Ok x) = is.Value x
settled search_for (Err class) = search_for class

-- how many evaluations follow one that gave a value, or raised a class
abbrev pub further : (Class → ℕ) → Answer Value → ℕ
further count (Ok x) = 0
further count (Err class) = count class

-- an `ignore` that catches the class
abbrev pub ignores : {F : Type 0} → Class → Handling F → Bool
ignores class (ignore c) = catches c class
ignores class (resolve c f) = false

-- what an operator raises without a function is looked up in its `ignore` handlers alone
abbrev pub is_ignored : {F : Type 0} → List (Handling F) → Class → Bool
is_ignored handlers class = list_any (ignores class) handlers

module _ {F : Type 0} (evaluate : F → Input → Answer Value) where
  -- one evaluation
  abbrev pub attempt : Want → Input → F → Answer Value
  attempt shape input f = do
    x ← evaluate f input
    wanted shape x

  -- the search for a handler of a class, among the handlers from a place on: the first whose class catches is taken. `ignore` drops
  -- the row; `resolve` evaluates its function on the same input, and what that raises is looked up behind it
  abbrev pub sought : Want → Input → List (Handling F) → Class → Handled
  sought shape input [] class = is.Reported class
  sought shape input (ignore c ∷ behind) class = if catches c class then is.Dropped else sought shape input behind class
  sought shape input (resolve c f ∷ behind) class =
      if catches c class then settled (sought shape input behind) (attempt shape input f) else sought shape input behind class

  -- how many functions the search evaluates
  abbrev pub tried : Want → Input → List (Handling F) → Class → ℕ
  tried shape input [] class = 0
  tried shape input (ignore c ∷ behind) class = if catches c class then 0 else tried shape input behind class
  tried shape input (resolve c f ∷ behind) class =
      if catches c class then 1 + further (tried shape input behind) (attempt shape input f) else tried shape input behind class

  -- what an operator's function and its handlers make of an input
  abbrev pub handled : Want → Input → F → List (Handling F) → Handled
  handled shape input f handlers = settled (sought shape input handlers) (attempt shape input f)

  -- how many functions are evaluated: the operator's, and then each resolver that is tried
  abbrev pub evaluations : Want → Input → F → List (Handling F) → ℕ
  evaluations shape input f handlers = 1 + further (tried shape input handlers) (attempt shape input f)
