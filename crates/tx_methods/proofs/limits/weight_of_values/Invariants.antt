use Rattle.std.proofs.Common.{◌≡◌, ◌+◌, ◌^◌, ◌-◌, ◌<◌, min, drop}
use Rattle.tx_methods.specs.Calls.{weight_of_values}
use Rattle.tx_methods.proofs.limits.weight_of_values.Given as goal

abbrev pub invariant-loop-item : goal.invariant-loop-item
invariant-loop-item l = (min (l.sum + weight_of_values (drop l.item-index l.items)) (2 ^ 64 - 1) ≡ min (weight_of_values l.items) (2 ^ 64 - 1)) × (l.sum < 2 ^ 64)
