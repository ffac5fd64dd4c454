use Rattle.std.proofs.Common.{◌≡◌}
use Rattle.tx_ops.specs.Binary.{copies}
use Rattle.tx_ops.proofs.copies.copies_of.Given as goal

abbrev pub invariant-copies : goal.invariant-copies
invariant-copies l = l.made.items ≡ copies l._turn l.items
