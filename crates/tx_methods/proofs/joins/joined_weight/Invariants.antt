use Rattle.std.proofs.Common.{◌≡◌, drop}
use Rattle.tx_methods.specs.Calls.{joined_weight}
use Rattle.tx_methods.proofs.joins.joined_weight.Given as goal

abbrev pub invariant-loop-item : goal.invariant-loop-item
invariant-loop-item l = joined_weight l.sum l.each (drop l.item-index l.items) ≡ joined_weight 0 l.each l.items
