use Rattle.std.proofs.Common.{◌≡◌, ◌+◌, length}
use Rattle.tx_interp.specs.Frames.{map_of}
use Rattle.tx_interp.proofs.frame.reach.Given as goal

abbrev pub invariant-loop-slot : goal.invariant-loop-slot
invariant-loop-slot l = (map_of l.frame.items ≡ map_of l.fn.frame.items) × (length l.frame.items ≡ length l.fn.frame.items + l._slot)
