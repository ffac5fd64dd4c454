use Rattle.std.proofs.Common.{◌≡◌, drop}
use Rattle.tx_methods.specs.Builtins.{least_from, least_of}
use Rattle.tx_methods.proofs.extremes.least.Given as goal

abbrev pub invariant-loop-item : goal.invariant-loop-item
invariant-loop-item l = least_from l.kept (drop l.item-index l.others) ≡ least_of l.items
