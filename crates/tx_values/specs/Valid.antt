-- Which values are hashable, and which are valid.
use Rattle.std.specs.Prelude.{ℕ, Bool, true, false, not, nat_lt, ◌&&◌, List, [], ◌∷◌, map}
use Rattle.std.specs.List.{AllByRecursion, list_any, list_all}
use Rattle.tx_base.specs.Width.{is_128_bit}
use Rattle.tx_values.specs.declared.value.Value.{Value, fold-Value, para-Value}
use Rattle.tx_values.specs.declared.value.Value.TheOpen.{Value-F}
use Rattle.tx_values.specs.declared.value.Value.TheOpen as v
use Rattle.tx_values.specs.Limits.{in_limits}
use Rattle.tx_values.specs.Equality.{equal}

-- P holds of each part of a layer
abbrev pub Parts : (Value → Type 0) → Value-F Value → Type 0
Parts P (v.Tuple items) = AllByRecursion P items
Parts P (v.List items) = AllByRecursion P items
Parts P (v.Dict pairs) = AllByRecursion {X = Value × Value} (λ p. P p.0 × P p.1) pairs
Parts P _ = Unit {0}

-- a list and a dictionary are not hashable, and so is no tuple that holds one
abbrev pub hashable_step : Value-F Bool → Bool
hashable_step (v.Tuple parts) = list_all (λ b. b) parts
hashable_step (v.List parts) = false
hashable_step (v.Dict parts) = false
hashable_step _ = true

abbrev pub hashable : Value → Bool
hashable = fold-Value Bool hashable_step

-- no two are equal
abbrev pub distinct : List Value → Bool
distinct [] = true
distinct (k ∷ ks) = not (list_any (equal k) ks) && distinct ks

-- a part of a value, and whether it is keyed
abbrev pub Told : Type 0
Told = Value × Bool

abbrev pub told_all : List Told → Bool
told_all parts = list_all (λ t. t.1) parts

abbrev pub told_pairs : List (Told × Told) → Bool
told_pairs pairs = list_all (λ t. t.0.1 && t.1.1) pairs

abbrev pub told_keys : List (Told × Told) → List Value
told_keys pairs = map (λ t. t.0.0) pairs

-- the keys of dictionaries are hashable and pairwise unequal, at every depth
abbrev pub keyed_step : Value-F Told → Bool
keyed_step (v.Tuple parts) = told_all parts
keyed_step (v.List parts) = told_all parts
keyed_step (v.Dict pairs) = told_pairs pairs && (list_all hashable (told_keys pairs) && distinct (told_keys pairs))
keyed_step _ = true

abbrev pub keyed : Value → Bool
keyed = para-Value Bool keyed_step

-- the code points are the numbers below this one (the last is Python's `sys.maxunicode`)
abbrev pub code_point_end : ℕ
code_point_end = 0x110000

abbrev pub is_code_point : ℕ → Bool
is_code_point c = nat_lt c code_point_end

-- each integer is one of 128 bits, and each character of a text a code point, at every depth
abbrev pub ranged_step : Value-F Bool → Bool
ranged_step (v.Int n) = is_128_bit n
ranged_step (v.Text text) = list_all is_code_point text
ranged_step (v.Tuple parts) = list_all (λ b. b) parts
ranged_step (v.List parts) = list_all (λ b. b) parts
ranged_step (v.Dict pairs) = list_all (λ p. p.0 && p.1) pairs
ranged_step _ = true

abbrev pub ranged : Value → Bool
ranged = fold-Value Bool ranged_step

-- a value of the language: within the limits, its integers of 128 bits, its texts of code points, its keys hashable and
-- pairwise unequal
abbrev pub valid : Value → Bool
valid a = in_limits a && (ranged a && keyed a)
