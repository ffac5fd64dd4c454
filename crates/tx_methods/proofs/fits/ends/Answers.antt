use Rattle.std.proofs.Common.{arith}
use Rattle.tx_methods.proofs.Ends.{same_end}
use Rattle.tx_methods.proofs.fits.ends.Goals as goal

pub returns : goal.returns
returns c = same_end c.args.part.now c.args.text.now c.len-length.result c.len-each.result _ _ c.len-length.ensures c.len-each.ensures (omega arith) c.in_ok-end.ensures c.equal.ensures
