use Rattle.std.proofs.Common.{length}
use Rattle.tx_plain.proofs.walking.+pass.Given as goal

abbrev pub decreases-pass : goal.decreases-pass
decreases-pass g l = length l.nodes.now
