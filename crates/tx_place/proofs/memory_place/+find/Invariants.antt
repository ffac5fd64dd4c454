use Rattle.std.proofs.Common.{length}
use Rattle.tx_place.proofs.memory_place.+find.Given as goal

abbrev pub decreases-find : goal.decreases-find
decreases-find l = length l.files.now
