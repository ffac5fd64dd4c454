use Rattle.std.proofs.Common.{length}
use Rattle.tx_place.proofs.memory_place.+place_of.Given as goal

abbrev pub decreases-place_of : goal.decreases-place_of
decreases-place_of l = length l.files.now
