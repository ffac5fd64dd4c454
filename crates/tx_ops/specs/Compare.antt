-- Comparisons (Language Reference 6.10).
use Rattle.std.specs.Prelude.{ℕ, Bool, true, false, not, List, Ok, Err, is_some, if◌then◌else◌}
use Rattle.std.specs.List.{list_any}
use Rattle.tx_base.specs.declared.class.Class.TheVariants.{TypeError}
use Rattle.tx_text.specs.Text.{first_place}
use Rattle.tx_tree.specs.declared.operator.CompareOp.{CompareOp}
use Rattle.tx_tree.specs.declared.operator.CompareOp.TheVariants as compare
use Rattle.tx_values.specs.declared.value.Value.{Value}
use Rattle.tx_values.specs.Equality.{equal}
use Rattle.tx_values.specs.Order.{less}
use Rattle.tx_values.specs.Valid.{hashable}
use Rattle.tx_values.specs.Answer.{Answer, ◌>>=◌}
use Rattle.tx_values.specs.Operand.{Operand, text, tuple, list, dictionary, none, operand}

-- the opposite of an answer
abbrev pub opposite : Answer Bool → Answer Bool
opposite answer = do
  truth ← answer
  Ok (not truth)

-- ---- `a in b` (6.10.2): a text has a text as a part, a tuple and a list have an item that is equal, a dictionary an equal key

-- a text is a part where it stands at some place
abbrev pub is_part : Operand → List ℕ → Answer Bool
is_part (text part) whole = Ok (is_some (first_place part whole))
is_part _ whole = Err TypeError

-- a value that is not hashable can be no key
abbrev pub is_key : Value → List (Value × Value) → Answer Bool
is_key a pairs = if hashable a then Ok (list_any (λ p. equal a p.0) pairs) else Err TypeError

abbrev pub holds : Operand → Value → Answer Bool
holds (text whole) a = is_part (operand a) whole
holds (tuple items) a = Ok (list_any (equal a) items)
holds (list items) a = Ok (list_any (equal a) items)
holds (dictionary pairs) a = is_key a pairs
holds _ a = Err TypeError

-- ---- `a is None` (6.10.3); no other right operand is in the language

abbrev pub is_nothing : Operand → Bool
is_nothing none = true
is_nothing _ = false

-- ---- the operators; numbers, texts, tuples and lists are in a total order (6.10.1), where `a <= b` is the opposite of `b < a`

abbrev pub compare_of : CompareOp → Value → Value → Answer Bool
compare_of compare.Equal a b = Ok (equal a b)
compare_of compare.NotEqual a b = Ok (not (equal a b))
compare_of compare.Less a b = less a b
compare_of compare.LessEqual a b = opposite (less b a)
compare_of compare.Greater a b = less b a
compare_of compare.GreaterEqual a b = opposite (less a b)
compare_of compare.In a b = holds (operand b) a
compare_of compare.NotIn a b = opposite (holds (operand b) a)
compare_of compare.Is a b = Ok (is_nothing (operand a))
compare_of compare.IsNot a b = Ok (not (is_nothing (operand a)))
