use Rattle.std.proofs.Common.{◌≡◌, ◌^◌, ◌-◌, ◌<◌, max, min, drop}
use Rattle.tx_methods.specs.Calls.{keys_of, depth_of_values}
use Rattle.tx_methods.proofs.limits.depth_of_keys.Given as goal

abbrev pub invariant-loop-pair : goal.invariant-loop-pair
invariant-loop-pair l = (min (max l.most (depth_of_values (keys_of (drop l.pair-index l.pairs)))) (2 ^ 32 - 1) ≡ min (depth_of_values (keys_of l.pairs)) (2 ^ 32 - 1)) × (l.most < 2 ^ 32)
