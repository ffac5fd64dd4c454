use Rattle.std.proofs.Common.{length}
use Rattle.tx_plain.proofs.handling.+sought.Given as goal

abbrev pub decreases-sought : goal.decreases-sought
decreases-sought g l = length l.handlers.now
