-- What holds of the definitions alone.
use Rattle.std.specs.Prelude.{◌≡◌, ◌⊎◌, ◌↔◌, ◌<◌, ◌&&◌, Bool, true, false, List, map, Ok}
use Rattle.std.specs.List.{list_all}
use Rattle.tx_base.specs.Width.{is_128_bit}
use Rattle.tx_values.specs.declared.key.Atom.{Atom}
use Rattle.tx_values.specs.declared.value.Value.{Value, out-Value}
use Rattle.tx_values.specs.declared.value.Value.TheOpen.{Value-F}
use Rattle.tx_values.specs.declared.value.Value.TheOpen as v
use Rattle.tx_values.specs.Limits.{weight, depth, in_limits}
use Rattle.tx_values.specs.Equality.{equal}
use Rattle.tx_values.specs.Order.{less}
use Rattle.tx_values.specs.Valid.{Parts, distinct, hashable, is_code_point, keyed, valid}
use Rattle.tx_values.specs.Keys.{key_input, key_of, same_key}

-- ---- a value is valid where it is within the limits and its parts are valid

-- what is asked of a layer beside that
abbrev pub is_sound : Value-F Value → Bool
is_sound (v.Int n) = is_128_bit n
is_sound (v.Text text) = list_all is_code_point text
is_sound (v.Dict pairs) = list_all hashable (map (λ p. p.0) pairs) && distinct (map (λ p. p.0) pairs)
is_sound _ = true

abbrev pub ValidLaw : Type 0
ValidLaw = (a : Value) → (valid a ≡ true)
    ↔ ((in_limits a ≡ true) × (is_sound (out-Value a) ≡ true) × Parts (λ x. valid x ≡ true) (out-Value a))

-- ---- equality is an equivalence on valid values

abbrev pub ReflexiveLaw : Type 0
ReflexiveLaw = (a : Value) → equal a a ≡ true

-- where the keys of the first are hashable and pairwise unequal, as in every valid value
abbrev pub SymmetricLaw : Type 0
SymmetricLaw = (a b : Value) → keyed a ≡ true → equal a b ≡ true → equal b a ≡ true

abbrev pub TransitiveLaw : Type 0
TransitiveLaw = (a b c : Value) → equal a b ≡ true → equal b c ≡ true → equal a c ≡ true

-- ---- keys follow equality

-- of hashable values the keys are equal exactly where the values are
abbrev pub KeysLaw : Type 0
KeysLaw = (a b : Value) → hashable a ≡ true → hashable b ≡ true → same_key (key_of a) (key_of b) ≡ equal a b

-- two keys are the same exactly where their atoms are the same list
abbrev pub SameKeyLaw : Type 0
SameKeyLaw = (a b : List Atom) → (same_key a b ≡ true) ↔ (a ≡ b)

-- and the keys of equal values hash alike
abbrev pub HashLaw : Type 0
HashLaw = (a b : Value) → hashable a ≡ true → equal a b ≡ true → key_input (key_of a) ≡ key_input (key_of b)

-- what is equal to a hashable value is hashable
abbrev pub HashableLaw : Type 0
HashableLaw = (a b : Value) → hashable a ≡ true → equal a b ≡ true → hashable b ≡ true

-- ---- the orders of numbers and of texts are total

-- numbers are truth values and integers
abbrev pub is_numeric : Value-F Value → Bool
is_numeric (v.Truth b) = true
is_numeric (v.Int n) = true
is_numeric _ = false

abbrev pub is_textual : Value-F Value → Bool
is_textual (v.Text s) = true
is_textual _ = false

abbrev pub IsNumber : Value → Type 0
IsNumber a = is_numeric (out-Value a) ≡ true

abbrev pub IsText : Value → Type 0
IsText a = is_textual (out-Value a) ≡ true

-- exactly one of three
abbrev pub OneOf : Bool → Bool → Bool → Type 0
OneOf before same behind = ((before ≡ true) × (same ≡ false) × (behind ≡ false))
    ⊎ (((before ≡ false) × (same ≡ true) × (behind ≡ false)) ⊎ ((before ≡ false) × (same ≡ false) × (behind ≡ true)))

-- each is before the other, equal to it or behind it
abbrev pub Compared : Value → Value → Type 0
Compared a b = (before : Bool) × (behind : Bool) × (less a b ≡ Ok before) × (less b a ≡ Ok behind) × OneOf before (equal a b) behind

abbrev pub TrichotomyLaw : (Value → Type 0) → Type 0
TrichotomyLaw Is = (a b : Value) → Is a → Is b → Compared a b

abbrev pub LessTransitiveLaw : (Value → Type 0) → Type 0
LessTransitiveLaw Is = (a b c : Value) → Is a → Is b → Is c → less a b ≡ Ok true → less b c ≡ Ok true → less a c ≡ Ok true

-- ---- the order does not tell equal values apart, where the keys of the first are hashable and pairwise unequal

abbrev pub LessLeftLaw : Type 0
LessLeftLaw = (a b c : Value) → keyed a ≡ true → equal a b ≡ true → less a c ≡ less b c

abbrev pub LessRightLaw : Type 0
LessRightLaw = (a b c : Value) → keyed a ≡ true → equal a b ≡ true → less c a ≡ less c b

-- ---- a part weighs less than the whole, and is less deep

abbrev pub PartsLaw : Type 0
PartsLaw = (a : Value) → Parts (λ x. (weight x < weight a) × (depth x < depth a)) (out-Value a)
