use Rattle.std.proofs.Common.{◌≡◌, ◌^◌, ◌-◌, ◌<◌, max, min, drop}
use Rattle.tx_values.specs.Calls.Lists.{depth_all, depth_pairs}
use Rattle.tx_values.proofs.limits.+depth.Given as goal

abbrev pub invariant-depth_all-loop-item : goal.invariant-depth_all-loop-item
invariant-depth_all-loop-item l = (min (max l.most (depth_all (drop l.item-index l.items))) (2 ^ 32 - 1) ≡ min (depth_all l.items) (2 ^ 32 - 1)) × (l.most < 2 ^ 32)

abbrev pub invariant-depth_pairs-loop-pair : goal.invariant-depth_pairs-loop-pair
invariant-depth_pairs-loop-pair l = (min (max l.most (depth_pairs (drop l.pair-index l.pairs))) (2 ^ 32 - 1) ≡ min (depth_pairs l.pairs) (2 ^ 32 - 1)) × (l.most < 2 ^ 32)
