use Rattle.std.proofs.Common.{◌≡◌, ◌+◌, ◌^◌, ◌-◌, ◌<◌, min, map, drop}
use Rattle.tx_tree.specs.Tree.{arg_of}
use Rattle.tx_tree.specs.Calls.Count.{sum_of_args}
use Rattle.tx_tree.proofs.count.count_of_arg_list.Given as goal

abbrev pub invariant-loop-arg : goal.invariant-loop-arg
invariant-loop-arg l = (min (l.sum + sum_of_args (map arg_of (drop l.arg-index l.args))) (2 ^ 64 - 1) ≡ min (sum_of_args (map arg_of l.args)) (2 ^ 64 - 1)) × (l.sum < 2 ^ 64)
