-- What the methods of tuples and lists give (Python's built-in types, "Common Sequence Operations"). Items are compared as
-- `item == v`.
use Rattle.std.specs.Prelude.{List, Err, count_by, ok_or, position}
use Rattle.tx_base.specs.declared.class.Class.TheVariants.{ValueError, AttributeError}
use Rattle.tx_tree.specs.declared.function.Method.{Method}
use Rattle.tx_tree.specs.declared.function.Method.TheVariants as method
use Rattle.tx_values.specs.declared.value.Value.{Value}
use Rattle.tx_values.specs.Equality.{equal}
use Rattle.tx_values.specs.Answer.{Answer, ◌>>=◌}
use Rattle.tx_methods.specs.Arguments.{only}
use Rattle.tx_methods.specs.Builtins.{natural}

abbrev pub sequence_method : Method → List Value → List Value → Answer Value
sequence_method method.Count items args = do
  arg ← only args
  natural (count_by (λ item. equal item arg) items)
sequence_method method.Index items args = do
  arg ← only args
  place ← ok_or (position (λ item. equal item arg) items) ValueError
  natural place
sequence_method _ items args = Err AttributeError
