use Rattle.std.proofs.Common.{◌≡◌, ◌+◌, ◌^◌, ◌-◌, ◌<◌, min, drop}
use Rattle.tx_values.specs.Calls.Lists.{weight_all, weight_pairs}
use Rattle.tx_values.proofs.limits.+weight.Given as goal

abbrev pub invariant-weight_all-loop-item : goal.invariant-weight_all-loop-item
invariant-weight_all-loop-item l = (min (l.sum + weight_all (drop l.item-index l.items)) (2 ^ 64 - 1) ≡ min (weight_all l.items) (2 ^ 64 - 1)) × (l.sum < 2 ^ 64)

abbrev pub invariant-weight_pairs-loop-pair : goal.invariant-weight_pairs-loop-pair
invariant-weight_pairs-loop-pair l = (min (l.sum + weight_pairs (drop l.pair-index l.pairs)) (2 ^ 64 - 1) ≡ min (weight_pairs l.pairs) (2 ^ 64 - 1)) × (l.sum < 2 ^ 64)
