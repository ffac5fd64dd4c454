-- What the methods of dictionaries give, but for the views, which are walks (Python's built-in types, "Mapping Types").
use Rattle.std.specs.Prelude.{List, if◌then◌else◌, unwrap_or, Ok, Err}
use Rattle.tx_base.specs.declared.class.Class.TheVariants.{TypeError, AttributeError}
use Rattle.tx_tree.specs.declared.function.Method.{Method}
use Rattle.tx_tree.specs.declared.function.Method.TheVariants as method
use Rattle.tx_values.specs.declared.value.Value.{Value}
use Rattle.tx_values.specs.declared.value.Value.TheVariants.{Nil}
use Rattle.tx_values.specs.Lookup.{value_under}
use Rattle.tx_values.specs.Valid.{hashable}
use Rattle.tx_values.specs.Answer.{Answer, ◌>>=◌}
use Rattle.tx_methods.specs.Arguments.{one_or_two}

-- `get`: the value, or else the second argument, or None
abbrev pub dict_method : Method → List (Value × Value) → List Value → Answer Value
dict_method method.Get pairs args = do
  given ← one_or_two args
  if hashable given.0 then Ok (unwrap_or (value_under given.0 pairs) (unwrap_or given.1 Nil)) else Err TypeError
dict_method _ pairs args = Err AttributeError
