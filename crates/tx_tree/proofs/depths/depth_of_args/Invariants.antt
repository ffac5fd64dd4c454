use Rattle.std.proofs.Common.{◌≡◌, ◌^◌, ◌-◌, ◌<◌, max, min, map, drop}
use Rattle.tx_tree.specs.Tree.{arg_of}
use Rattle.tx_tree.specs.Depth.{depth_args}
use Rattle.tx_tree.proofs.depths.depth_of_args.Given as goal

abbrev pub invariant-loop-arg : goal.invariant-loop-arg
invariant-loop-arg l = (min (max l.most (depth_args (map arg_of (drop l.arg-index l.args)))) (2 ^ 32 - 1) ≡ min (depth_args (map arg_of l.args)) (2 ^ 32 - 1)) × (l.most < 2 ^ 32)
