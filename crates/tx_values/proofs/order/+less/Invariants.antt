use Rattle.std.proofs.Common.{◌≡◌, drop}
use Rattle.tx_values.specs.Calls.Lists.{less_all}
use Rattle.tx_values.proofs.order.+less.Given as goal

abbrev pub invariant-less_all-loop-i : goal.invariant-less_all-loop-i
invariant-less_all-loop-i l = less_all (drop l.i l.xs) (drop l.i l.ys) ≡ less_all l.xs l.ys
