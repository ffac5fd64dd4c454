use Rattle.std.proofs.Common.{rules}
use Rattle.tx_interp.proofs.Slots.{map_lent}
use Rattle.tx_interp.proofs.frame.lent_frame.Goals as goal

pub returns : goal.returns
returns c = search (rules, map_lent)
