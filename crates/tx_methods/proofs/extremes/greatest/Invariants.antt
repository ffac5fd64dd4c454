use Rattle.std.proofs.Common.{◌≡◌, drop}
use Rattle.tx_methods.specs.Builtins.{greatest_from, greatest_of}
use Rattle.tx_methods.proofs.extremes.greatest.Given as goal

abbrev pub invariant-loop-item : goal.invariant-loop-item
invariant-loop-item l = greatest_from l.kept (drop l.item-index l.others) ≡ greatest_of l.items
