use Rattle.std.proofs.Common.{◌≡◌, take, map}
use Rattle.tx_interp.specs.Frames.{held_values}
use Rattle.tx_interp.proofs.frame.lent_frame.Given as goal

abbrev pub invariant-loop-slot : goal.invariant-loop-slot
invariant-loop-slot l = held_values l.out.items ≡ held_values (take l.slot-index l.frame.items)
