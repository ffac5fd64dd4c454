use Rattle.std.proofs.Common.{◌≡◌, ◌^◌, ◌-◌, ◌<◌, max, min, drop}
use Rattle.tx_methods.specs.Calls.{depth_of_values}
use Rattle.tx_methods.proofs.limits.depth_of_values.Given as goal

abbrev pub invariant-loop-item : goal.invariant-loop-item
invariant-loop-item l = (min (max l.most (depth_of_values (drop l.item-index l.items))) (2 ^ 32 - 1) ≡ min (depth_of_values l.items) (2 ^ 32 - 1)) × (l.most < 2 ^ 32)
