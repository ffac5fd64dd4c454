-- Induction over values: what holds of a layer whose parts have it holds of every value.
use Rattle.std.proofs.Common.{List, [], ◌∷◌, map, subst}
use Rattle.std.specs.List.{AllByRecursion}
use Rattle.tx_values.specs.declared.value.Value.{Value, out-Value, roll-Value, roll-out-Value, ind-Value, map-Value}
use Rattle.tx_values.specs.declared.value.Value.TheOpen.{Value-F}
use Rattle.tx_values.specs.declared.value.Value.TheOpen as v
use Rattle.tx_values.specs.Valid.{Parts}

module _ (P : Value → Type 0) where
  -- a part, and that P holds of it
  abbrev Held : Type 0
  Held = (x : Value) × P x

  each : (hs : List Held) → AllByRecursion P (map (λ h. h.0) hs)
  each [] = tt
  each (h ∷ hs) = (h.1, each hs)

  each_pair : (hs : List (Held × Held)) → AllByRecursion {X = Value × Value} (λ p. P p.0 × P p.1) (map (λ h. (h.0.0, h.1.0)) hs)
  each_pair [] = tt
  each_pair (h ∷ hs) = ((h.0.1, h.1.1), each_pair hs)

  parts : (y : Value-F Held) → Parts P (map-Value Held Value (λ h. h.0) y)
  parts (v.Tuple hs) = each hs
  parts (v.List hs) = each hs
  parts (v.Dict hs) = each_pair hs
  parts v.Nil = tt
  parts (v.Truth b) = tt
  parts (v.Int n) = tt
  parts (v.Text s) = tt

  pub induct : ((x : Value-F Value) → Parts P x → P (roll-Value x)) → (a : Value) → P a
  induct step = ind-Value P (λ x y e. step x (subst (Parts P) e (parts y)))

  -- every value is the roll of a layer
  pub by_layer : ((x : Value-F Value) → P (roll-Value x)) → (a : Value) → P a
  by_layer f a = subst P (roll-out-Value a) (f (out-Value a))
