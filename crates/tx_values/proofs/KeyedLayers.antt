-- Whether a layer, a list of items and a list of pairs are keyed.
use Rattle.std.proofs.Common.{◌≡◌, Bool, List, map}
use Rattle.tx_values.specs.declared.value.Value.{Value, roll-Value, map-Value, para-roll-Value}
use Rattle.tx_values.specs.declared.value.Value.TheOpen.{Value-F}
use Rattle.tx_values.specs.Valid.{Told, keyed, keyed_step, told_all, told_pairs}

abbrev pub keyed_layer : Value-F Value → Bool
keyed_layer x = keyed_step (map-Value Value Told (λ y. (y, keyed y)) x)

pub keyed_rolled : (x : Value-F Value) → keyed (roll-Value x) ≡ keyed_layer x
keyed_rolled x = para-roll-Value Bool keyed_step x

abbrev pub keyed_all : List Value → Bool
keyed_all xs = told_all (map (λ x. (x, keyed x)) xs)

abbrev pub told_of : List (Value × Value) → List (Told × Told)
told_of ps = map (λ p. ((p.0, keyed p.0), (p.1, keyed p.1))) ps

abbrev pub keyed_pairs : List (Value × Value) → Bool
keyed_pairs ps = told_pairs (told_of ps)
