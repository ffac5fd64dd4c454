-- Subscriptions `base[at]` (Language Reference 6.3.2): the item of a sequence, or the value of a dictionary.
use Rattle.std.specs.Prelude.{ℕ, List, [], ◌∷◌, length, slice_get, ok_or, if◌then◌else◌, Ok, Err}
use Rattle.tx_base.specs.declared.class.Class.TheVariants.{IndexError, KeyError, TypeError}
use Rattle.tx_num.specs.Place.{place_of}
use Rattle.tx_values.specs.declared.value.Value.{Value}
use Rattle.tx_values.specs.declared.value.Value as value
use Rattle.tx_values.specs.Lookup.{value_under}
use Rattle.tx_values.specs.Valid.{hashable}
use Rattle.tx_values.specs.Answer.{Answer, ◌>>=◌}
use Rattle.tx_values.specs.Operand.{Operand, number, text, tuple, list, dictionary, operand}

-- ---- a sequence

-- the place that an index means among so many items
abbrev pub place_at : ℕ → Operand → Answer ℕ
place_at count (number index) = ok_or (place_of count index) IndexError
place_at count _ = Err TypeError

abbrev pub item_at : {A : Type 0} → List A → Operand → Answer A
item_at items at = do
  place ← place_at (length items) at
  ok_or (slice_get items place) IndexError

-- the text of one character
abbrev pub character_at : List ℕ → Operand → Answer Value
character_at s at = do
  c ← item_at s at
  Ok (value.Text (c ∷ []))

-- ---- a dictionary

-- a value that is not hashable can be no key
abbrev pub value_at : List (Value × Value) → Value → Answer Value
value_at pairs key = if hashable key then ok_or (value_under key pairs) KeyError else Err TypeError

-- ---- any value

abbrev pub index_in : Operand → Value → Answer Value
index_in (text s) at = character_at s (operand at)
index_in (tuple items) at = item_at items (operand at)
index_in (list items) at = item_at items (operand at)
index_in (dictionary pairs) at = value_at pairs at
index_in _ at = Err TypeError

abbrev pub index_of : Value → Value → Answer Value
index_of base at = index_in (operand base) at
