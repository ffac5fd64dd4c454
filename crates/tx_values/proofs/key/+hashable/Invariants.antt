use Rattle.std.proofs.Common.{◌≡◌, drop}
use Rattle.tx_values.specs.Calls.Lists.{hashable_all}
use Rattle.tx_values.proofs.key.+hashable.Given as goal

abbrev pub invariant-hashable_all-loop-item : goal.invariant-hashable_all-loop-item
invariant-hashable_all-loop-item l = hashable_all (drop l.item-index l.items) ≡ hashable_all l.items
