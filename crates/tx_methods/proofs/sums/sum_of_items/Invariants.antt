use Rattle.std.proofs.Common.{◌≡◌, drop}
use Rattle.tx_methods.specs.Calls.{sum_of_rest}
use Rattle.tx_methods.specs.Builtins.{sum_of_items}
use Rattle.tx_methods.proofs.sums.sum_of_items.Given as goal

abbrev pub invariant-loop-item : goal.invariant-loop-item
invariant-loop-item l = sum_of_rest l.total (drop l.item-index l.items) ≡ sum_of_items l.items
