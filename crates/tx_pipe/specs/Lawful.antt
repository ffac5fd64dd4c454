-- Which pipes are lawful.
use Rattle.std.specs.Prelude.{◌≡◌, ℕ, ℤ, neg_ℤ, ◌+◌, ◌<◌, ◌≤◌, ◌==◌, ◌&&◌, Bool, true, false, not, nat_le, nat_lt, if◌then◌else◌, List, [], ◌∷◌, ◌++◌, length, Option, Some, None, is_some, option_to_list, filter_map}
use Rattle.std.specs.List.{AllByRecursion, count_by, flat_map, list_all}
use Rattle.tx_base.specs.Width.{is_128_bit}
use Rattle.tx_values.specs.declared.value.Value.{Value, fold-Value}
use Rattle.tx_values.specs.declared.value.Value.TheOpen.{Value-F}
use Rattle.tx_values.specs.declared.value.Value.TheOpen as v
use Rattle.tx_values.specs.Equality.{is_some_list}
use Rattle.tx_values.specs.Limits.{in_limits}
use Rattle.tx_names.specs.declared.role.Role.{Role}
use Rattle.tx_names.specs.declared.role.Role.TheVariants.{Plain, OfRow, OfAccRow}
use Rattle.tx_names.specs.Function.{Function, role_of, params_of}
use Rattle.tx_pipe.specs.declared.pipe.MapTo.TheVariants as to
use Rattle.tx_pipe.specs.Pipe.{Operation, csv, map_to, select_columns, join, left_join, aggregate, source_file, output_file, function_in, role_in, allows, resolver_in, PipeNode}

-- the most operators and handlers of a script
abbrev pub most_operators : ℕ
most_operators = 64

-- ---- arguments

-- an integer literal is at most 2^127 - 1, and a minus may stand ahead of it
abbrev pub is_signed_literal : ℤ → Bool
is_signed_literal n = is_128_bit n && is_128_bit (neg_ℤ n)

-- None, a truth value, an integer literal, a text, or a tuple or a list of such
abbrev pub literal_step : Value-F Bool → Bool
literal_step (v.Int n) = is_signed_literal n
literal_step (v.Tuple parts) = list_all (λ b. b) parts
literal_step (v.List parts) = list_all (λ b. b) parts
literal_step (v.Dict parts) = false
literal_step _ = true

abbrev pub is_literal : Value → Bool
is_literal = fold-Value Bool literal_step

-- a list of names has one or more, and the first accumulator is a literal within the limits of values
abbrev pub has_form : {F P : Type 0} → Operation F P → Bool
has_form (csv file (Some names)) = is_some_list names
has_form (map_to f (to.Columns names)) = is_some_list names
has_form (select_columns names) = is_some_list names
has_form (aggregate f init name) = is_literal init && in_limits init
has_form _ = true

-- ---- inputs

-- the numbers of the inputs, the left one first
abbrev pub inputs_by : {F : Type 0} → Operation F ℕ → ℕ → List ℕ
inputs_by (csv file names) input = []
inputs_by (join right l r) input = input ∷ right ∷ []
inputs_by (left_join right l r) input = input ∷ right ∷ []
inputs_by _ input = input ∷ []

abbrev pub inputs_of : {F : Type 0} → PipeNode F → List ℕ
inputs_of n = inputs_by n.operation n.input

abbrev pub is_earlier : ℕ → ℕ → Bool
is_earlier number input = nat_le 1 input && nat_lt input number

-- the inputs of the operator of this number are earlier ones, and a source has none
abbrev pub is_fed : {F : Type 0} → ℕ → PipeNode F → Bool
is_fed number n = if is_some (source_file n.operation) then n.input == 0 else list_all (is_earlier number) (inputs_of n)

-- the same of each from a number on
abbrev pub are_fed : {F : Type 0} → ℕ → List (PipeNode F) → Bool
are_fed number [] = true
are_fed number (n ∷ ns) = is_fed number n && are_fed (number + 1) ns

-- how often an operator is an input
abbrev pub uses : {F : Type 0} → ℕ → List (PipeNode F) → ℕ
uses number p = count_by (λ input. input == number) (flat_map inputs_of p)

-- ---- the end

-- the last operator, and no other, writes
abbrev pub is_output : {F : Type 0} → PipeNode F → Bool
is_output n = is_some (output_file n.operation)

abbrev pub ends_once : {F : Type 0} → List (PipeNode F) → Bool
ends_once [] = false
ends_once (n ∷ []) = is_output n
ends_once (n ∷ m ∷ ns) = not (is_output n) && ends_once (m ∷ ns)

-- ---- functions

-- how many parameters take values
abbrev pub values_in : Role → ℕ
values_in (Plain n) = n
values_in OfRow = 0
values_in OfAccRow = 1

-- a function takes what the role says
abbrev pub Takes : {N : Type 0} → Option Role → Function N → Type 0
Takes None f = ⊥
Takes (Some role) f = (role_of f ≡ role) × (length (params_of f) ≡ values_in role)

-- the functions of an operator and of its handlers
abbrev pub functions_of : {F : Type 0} → PipeNode F → List F
functions_of n = option_to_list (function_in n.operation) ++ filter_map resolver_in n.handlers

abbrev pub FunctionsFit : {N : Type 0} → PipeNode (Function N) → Type 0
FunctionsFit n = AllByRecursion (Takes (role_in n.operation)) (functions_of n)

-- ---- the whole

pub record Lawful {N : Type 0} (p : List (PipeNode (Function N))) : Type 0 where
  pub some : 1 ≤ length p
  pub few : length p ≤ most_operators
  pub forms : list_all (λ n. has_form n.operation) p ≡ true
  pub inputs : are_fed 1 p ≡ true
  -- each operator but the last is an input exactly once
  pub once : (number : ℕ) → 1 ≤ number → number < length p → uses number p ≡ 1
  pub last : ends_once p ≡ true
  -- each function has the role and the number of parameters that its operator gives, and handlers stand where they may
  pub functions : AllByRecursion FunctionsFit p
  pub handlers : list_all (λ n. list_all (allows n.operation) n.handlers) p ≡ true
