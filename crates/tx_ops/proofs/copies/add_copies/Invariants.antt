use Rattle.std.proofs.Common.{◌≡◌, ◌++◌, drop}
use Rattle.tx_ops.proofs.copies.add_copies.Given as goal

abbrev pub invariant-loop-item : goal.invariant-loop-item
invariant-loop-item l = l.made.items ++ drop l.item-index l.items ≡ l.fn.made.items ++ l.items
