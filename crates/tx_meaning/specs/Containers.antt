-- Dictionaries and lists that an expression makes item by item (Python Language Reference, "Dictionary displays", "Displays for
-- lists, sets and dictionaries").
use Rattle.std.specs.Prelude.{if◌then◌else◌, List, [], ◌∷◌, ◌++◌, Result, Ok, Err}
use Rattle.tx_base.specs.declared.class.Class.TheVariants.{TypeError}
use Rattle.tx_values.specs.declared.value.Value.{Value}
use Rattle.tx_values.specs.declared.value.Value.TheVariants as v
use Rattle.tx_values.specs.Answer.{Answer, ◌>>=◌}
use Rattle.tx_values.specs.Equality.{equal}
use Rattle.tx_values.specs.Limits.{made}
use Rattle.tx_values.specs.Valid.{hashable}

-- one more pair is entered: of equal keys the first stays, and the last value takes its place
abbrev pub enter : Value → Value → List (Value × Value) → List (Value × Value)
enter key new [] = (key, new) ∷ []
enter key new (pair ∷ pairs) = if equal key pair.0 then (pair.0, new) ∷ pairs else pair ∷ enter key new pairs

-- pairs are entered from the front; a value that is not hashable can be no key
abbrev pub entered : List (Value × Value) → List (Value × Value) → Answer (List (Value × Value))
entered entries [] = Ok entries
entered entries (pair ∷ pairs) = if hashable pair.0 then entered (enter pair.0 pair.1 entries) pairs else Err TypeError

-- the list with one more item, where it is within the limits
unfoldable pub longer : List Value → Value → Answer (List Value)
longer items x = do
  all ← made (v.List (items ++ x ∷ []))
  Ok (items ++ x ∷ [])
