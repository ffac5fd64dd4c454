-- The value of a key in a dictionary.
use Rattle.std.specs.Prelude.{List, [], ◌∷◌, Option, Some, None, if◌then◌else◌}
use Rattle.tx_values.specs.declared.value.Value.{Value}
use Rattle.tx_values.specs.Equality.{equal}

-- the value of the first pair whose key is equal to this one; in a valid dictionary no other pair has such a key
abbrev pub value_under : Value → List (Value × Value) → Option Value
value_under key [] = None
value_under key (pair ∷ pairs) = if equal key pair.0 then Some pair.1 else value_under key pairs
