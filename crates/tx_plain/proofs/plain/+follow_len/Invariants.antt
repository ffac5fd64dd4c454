use Rattle.std.proofs.Common.{length}
use Rattle.tx_plain.proofs.plain.+follow_len.Given as goal

abbrev pub decreases-follow_len : goal.decreases-follow_len
decreases-follow_len l = length l.nodes.now
