-- The parts of a value weigh less than it, and are less deep.
use Rattle.std.proofs.Common.{◌<◌, ◌≤◌, ℕ, List, [], ◌∷◌, sym, subst, arith}
use Rattle.std.specs.List.{AllByRecursion}
use Rattle.tx_values.specs.declared.value.Value.{Value, out-Value, roll-Value, out-roll-Value, fold-roll-Value}
use Rattle.tx_values.specs.declared.value.Value.TheOpen.{Value-F}
use Rattle.tx_values.specs.declared.value.Value.TheOpen as v
use Rattle.tx_values.specs.Limits.{weight, weight_step, depth, depth_step}
use Rattle.tx_values.specs.Calls.Lists.{weight_all, weight_pairs, depth_all, depth_pairs}
use Rattle.tx_values.specs.Valid.{Parts}
use Rattle.tx_values.specs.Laws.{PartsLaw}
use Rattle.tx_values.proofs.Induction.{by_layer}

module _ (w d : ℕ) where
  abbrev Under : Value → Type 0
  Under x = (weight x < w) × (depth x < d)

  items : (xs : List Value) → weight_all xs ≤ w → depth_all xs < d → AllByRecursion Under xs
  items [] h k = tt
  items (x ∷ xs) h k = ((omega arith, omega arith), items xs (omega arith) (omega arith))

  pairs : (ps : List (Value × Value)) → weight_pairs ps ≤ w → depth_pairs ps < d → AllByRecursion {X = Value × Value} (λ p. Under p.0 × Under p.1) ps
  pairs [] h k = tt
  pairs (p ∷ ps) h k = (((omega arith, omega arith), (omega arith, omega arith)), pairs ps (omega arith) (omega arith))

under : (x : Value-F Value) → Parts (Under (weight (roll-Value x)) (depth (roll-Value x))) x
under (v.Tuple xs) = items (weight (roll-Value (v.Tuple xs))) (depth (roll-Value (v.Tuple xs))) xs (omega (arith, fold-roll-Value ℕ weight_step (v.Tuple xs))) (omega (arith, fold-roll-Value ℕ depth_step (v.Tuple xs)))
under (v.List xs) = items (weight (roll-Value (v.List xs))) (depth (roll-Value (v.List xs))) xs (omega (arith, fold-roll-Value ℕ weight_step (v.List xs))) (omega (arith, fold-roll-Value ℕ depth_step (v.List xs)))
under (v.Dict ps) = pairs (weight (roll-Value (v.Dict ps))) (depth (roll-Value (v.Dict ps))) ps (omega (arith, fold-roll-Value ℕ weight_step (v.Dict ps))) (omega (arith, fold-roll-Value ℕ depth_step (v.Dict ps)))
under v.Nil = tt
under (v.Truth b) = tt
under (v.Int n) = tt
under (v.Text s) = tt

pub parts_within : PartsLaw
parts_within = by_layer (λ a. Parts (Under (weight a) (depth a)) (out-Value a)) (λ x. subst (Parts (Under (weight (roll-Value x)) (depth (roll-Value x)))) (sym (out-roll-Value x)) (under x))
