-- Laws above the definitions. Each is the contract of a function that does nothing, which is named at it.
use Rattle.std.specs.Prelude.{◌≡◌, ◌↔◌, ◌≤◌, ℕ, ◌||◌, Bool, true, false, List, length, Option, Some, None, Ok, ℤ, pos}
use Rattle.tx_num.specs.Laws.{IsFloor}
use Rattle.tx_text.specs.Laws.{StandsAt, StandsNot}
use Rattle.tx_tree.specs.declared.operator.BinaryOp.{BinaryOp}
use Rattle.tx_tree.specs.declared.operator.BinaryOp.TheVariants.{Add, Mul, FloorDiv, Mod}
use Rattle.tx_tree.specs.declared.operator.UnaryOp.{UnaryOp}
use Rattle.tx_tree.specs.declared.operator.CompareOp.TheVariants.{In, Less, LessEqual}
use Rattle.tx_values.specs.declared.value.Value.{Value}
use Rattle.tx_values.specs.declared.value.Value as value
use Rattle.tx_values.specs.Equality.{equal}
use Rattle.tx_values.specs.Valid.{valid}
use Rattle.tx_values.specs.Operand.{Operand, number, text, tuple, list, operand}
use Rattle.tx_ops.specs.Binary.{binary_of}
use Rattle.tx_ops.specs.Unary.{unary_of}
use Rattle.tx_ops.specs.Compare.{compare_of}
use Rattle.tx_ops.specs.Index.{index_of}
use Rattle.tx_ops.specs.Slice.{slice_of}

-- ---- what an operation makes of valid values is valid: `results_are_valid`

abbrev pub IsValid : Value → Type 0
IsValid a = valid a ≡ true

pub record ResultsAreValid : Type 0 where
  pub binary : (op : BinaryOp) (a b r : Value) → IsValid a → IsValid b → binary_of op a b ≡ Ok r → IsValid r
  pub unary : (op : UnaryOp) (a r : Value) → IsValid a → unary_of op a ≡ Ok r → IsValid r
  pub index : (base at r : Value) → IsValid base → index_of base at ≡ Ok r → IsValid r
  pub slice : (base : Value) (from to : Option Value) (r : Value) → IsValid base → slice_of base from to ≡ Ok r → IsValid r

-- ---- `a == (a // b) * b + a % b`: `quotient_and_remainder_make_up_the_dividend`

-- the numbers behind a dividend, a divisor, a quotient and a remainder: the first is the quotient times the divisor and the
-- remainder, which lies between 0 and the divisor and has its sign
pub record IsDivision (a b q r : Value) : Type 0 where
  pub dividend : ℤ
  pub divisor : ℤ
  pub quotient : ℤ
  pub rest : ℤ
  pub dividend_is : operand a ≡ number dividend
  pub divisor_is : operand b ≡ number divisor
  pub quotient_is : q ≡ value.Int quotient
  pub rest_is : r ≡ value.Int rest
  pub whole : IsFloor dividend divisor quotient rest

abbrev pub DivisionLaw : Type 0
DivisionLaw = (a b q r : Value) → binary_of FloorDiv a b ≡ Ok q → binary_of Mod a b ≡ Ok r → IsDivision a b q r

-- the same by the operators alone, where the product has 128 bits
abbrev pub IdentityLaw : Type 0
IdentityLaw = (a b q r p s : Value) → binary_of FloorDiv a b ≡ Ok q → binary_of Mod a b ≡ Ok r → binary_of Mul q b ≡ Ok p → binary_of Add p r ≡ Ok s → equal a s ≡ true

-- ---- `(a + b)[0:len(a)] == a` and `(a + b)[len(a):] == b`: `joined_sequences_come_apart`

abbrev pub count_of : Operand → Option ℕ
count_of (text s) = Some (length s)
count_of (tuple items) = Some (length items)
count_of (list items) = Some (length items)
count_of _ = None

abbrev pub bound : ℕ → Option Value
bound n = Some (value.Int (pos n))

pub record ComesApart (a b c : Value) (count : ℕ) : Type 0 where
  pub front : slice_of c (bound 0) (bound count) ≡ Ok a
  pub back : slice_of c (bound count) None ≡ Ok b

abbrev pub JoinedLaw : Type 0
JoinedLaw = (a b c : Value) (count : ℕ) → count_of (operand a) ≡ Some count → binary_of Add a b ≡ Ok c → ComesApart a b c count

-- ---- `a in b` of two texts: `parts_of_texts_stand_at_a_place`

pub record IsPart (part whole : List ℕ) : Type 0 where
  pub found : (compare_of In (value.Text part) (value.Text whole) ≡ Ok true) ↔ ((place : ℕ) × (place ≤ length whole) × StandsAt part whole place)
  pub missing : (compare_of In (value.Text part) (value.Text whole) ≡ Ok false) ↔ ((place : ℕ) → place ≤ length whole → StandsNot part whole place)

abbrev pub PartLaw : Type 0
PartLaw = (part whole : List ℕ) → IsPart part whole

-- ---- `a <= b` is `a < b or a == b` of numbers and of texts: `less_equal_is_less_or_equal`

abbrev pub LessEqualLaw : (Value → Type 0) → Type 0
LessEqualLaw Is = (a b : Value) → Is a → Is b
    → (before : Bool) × (compare_of Less a b ≡ Ok before) × (compare_of LessEqual a b ≡ Ok (before || equal a b))
