use Rattle.std.proofs.Common.{◌≡◌, ◌+◌, ◌^◌, ◌-◌, ◌<◌, min, drop}
use Rattle.tx_methods.specs.Calls.{keys_of, weight_of_values}
use Rattle.tx_methods.proofs.limits.weight_of_keys.Given as goal

abbrev pub invariant-loop-pair : goal.invariant-loop-pair
invariant-loop-pair l = (min (l.sum + weight_of_values (keys_of (drop l.pair-index l.pairs))) (2 ^ 64 - 1) ≡ min (weight_of_values (keys_of l.pairs)) (2 ^ 64 - 1)) × (l.sum < 2 ^ 64)
