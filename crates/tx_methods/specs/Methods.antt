-- Which kinds have which methods, and what these give. A kind that lacks one is AttributeError.
use Rattle.std.specs.Prelude.{Bool, true, false, List, Err}
use Rattle.tx_base.specs.declared.class.Class.TheVariants.{AttributeError}
use Rattle.tx_tree.specs.declared.function.Method.{Method}
use Rattle.tx_tree.specs.declared.function.Method.TheVariants as method
use Rattle.tx_values.specs.declared.value.Value.{Value, out-Value}
use Rattle.tx_values.specs.declared.value.Value.TheOpen.{Value-F}
use Rattle.tx_values.specs.declared.value.Value.TheOpen as v
use Rattle.tx_values.specs.Answer.{Answer}
use Rattle.tx_methods.specs.TextMethods.{text_method}
use Rattle.tx_methods.specs.SequenceMethods.{sequence_method}
use Rattle.tx_methods.specs.DictMethods.{dict_method}

-- ---- which

abbrev pub texts_have : Method → Bool
texts_have method.Get = false
texts_have _ = true

abbrev pub sequences_have : Method → Bool
sequences_have method.Count = true
sequences_have method.Index = true
sequences_have _ = false

abbrev pub dictionaries_have : Method → Bool
dictionaries_have method.Get = true
dictionaries_have _ = false

abbrev pub has_method_in : Method → Value-F Value → Bool
has_method_in m (v.Text text) = texts_have m
has_method_in m (v.Tuple items) = sequences_have m
has_method_in m (v.List items) = sequences_have m
has_method_in m (v.Dict pairs) = dictionaries_have m
has_method_in m _ = false

abbrev pub has_method_of : Method → Value → Bool
has_method_of m a = has_method_in m (out-Value a)

-- the views `items`, `keys` and `values`
abbrev pub has_views_in : Value-F Value → Bool
has_views_in (v.Dict pairs) = true
has_views_in _ = false

abbrev pub has_views_of : Value → Bool
has_views_of a = has_views_in (out-Value a)

-- ---- what they give

abbrev pub method_in : Method → Value-F Value → List Value → Answer Value
method_in m (v.Text text) args = text_method m text args
method_in m (v.Tuple items) args = sequence_method m items args
method_in m (v.List items) args = sequence_method m items args
method_in m (v.Dict pairs) args = dict_method m pairs args
method_in m _ args = Err AttributeError

abbrev pub method_of : Method → Value → List Value → Answer Value
method_of m a args = method_in m (out-Value a) args
