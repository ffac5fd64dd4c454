use Rattle.std.proofs.Common.{◌≡◌, ◌++◌, drop}
use Rattle.tx_values.specs.Calls.Lists.{keys_of}
use Rattle.tx_values.proofs.key.+atoms.Given as goal

abbrev pub invariant-add_all-loop-item : goal.invariant-add_all-loop-item
invariant-add_all-loop-item l = l.atoms ++ keys_of (drop l.item-index l.items) ≡ l.fn.atoms ++ keys_of l.items
