use Rattle.std.proofs.Common.{◌≡◌, drop, nat_eq}
use Rattle.tx_meaning.specs.Maps.{put_all}
use Rattle.tx_interp.specs.Frames.{map_of}
use Rattle.tx_interp.proofs.frame.put_each.Given as goal

abbrev pub invariant-loop-i : goal.invariant-loop-i
invariant-loop-i l = put_all nat_eq (drop l.i l.slots) (drop l.i l.values) (map_of l.frame.items) ≡ put_all nat_eq l.slots l.values (map_of l.fn.frame.items)
