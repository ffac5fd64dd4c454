-- What arguments are taken as: how many they are, and of which kinds. What does not fit is TypeError, as in Python.
use Rattle.std.specs.Prelude.{ℕ, List, [], ◌∷◌, Option, Some, None, ok_or, Ok, Err, ℤ}
use Rattle.tx_base.specs.declared.class.Class.TheVariants.{TypeError}
use Rattle.tx_values.specs.Answer.{Answer, ◌>>=◌}
use Rattle.tx_values.specs.declared.value.Value.{Value, out-Value}
use Rattle.tx_values.specs.declared.value.Value.TheOpen.{Value-F}
use Rattle.tx_values.specs.declared.value.Value.TheOpen as v
use Rattle.tx_values.specs.Equality.{number_of}

-- ---- how many

-- there is no argument
abbrev pub without : {A : Type 0} → List Value → Answer A → Answer A
without [] answer = answer
without (a ∷ args) answer = Err TypeError

-- the one argument
abbrev pub only : List Value → Answer Value
only (a ∷ []) = Ok a
only _ = Err TypeError

-- the two arguments
abbrev pub both : List Value → Answer (Value × Value)
both (a ∷ b ∷ []) = Ok (a, b)
both _ = Err TypeError

-- the one argument, and a second one where it stands there
abbrev pub one_or_two : List Value → Answer (Value × Option Value)
one_or_two (a ∷ []) = Ok (a, None)
one_or_two (a ∷ b ∷ []) = Ok (a, Some b)
one_or_two _ = Err TypeError

-- ---- of which kinds

-- a truth value is the integer 0 or 1
abbrev pub integer_in : Value-F Value → Option ℤ
integer_in (v.Truth b) = Some (number_of b)
integer_in (v.Int n) = Some n
integer_in _ = None

abbrev pub a_number : Value → Answer ℤ
a_number a = ok_or (integer_in (out-Value a)) TypeError

abbrev pub text_in : Value-F Value → Answer (List ℕ)
text_in (v.Text text) = Ok text
text_in _ = Err TypeError

abbrev pub a_text : Value → Answer (List ℕ)
a_text a = text_in (out-Value a)

-- the one argument, a text
abbrev pub one_text : List Value → Answer (List ℕ)
one_text args = do
  a ← only args
  a_text a

-- the one argument, a number
abbrev pub one_number : List Value → Answer ℤ
one_number args = do
  a ← only args
  a_number a

-- the two arguments, both texts
abbrev pub two_texts : List Value → Answer (List ℕ × List ℕ)
two_texts args = do
  pair ← both args
  first ← a_text pair.0
  second ← a_text pair.1
  Ok (first, second)

-- the one argument, a text, or none; None stands for no argument
abbrev pub text_or_none_in : Value-F Value → Answer (Option (List ℕ))
text_or_none_in v.Nil = Ok None
text_or_none_in (v.Text text) = Ok (Some text)
text_or_none_in _ = Err TypeError

abbrev pub optional_text : List Value → Answer (Option (List ℕ))
optional_text [] = Ok None
optional_text (a ∷ []) = text_or_none_in (out-Value a)
optional_text _ = Err TypeError
