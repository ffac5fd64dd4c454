use Rattle.std.proofs.Common.{arith}
use Rattle.tx_text.proofs.Builds.{fits_first}
use Rattle.tx_text.proofs.build.joined_fits.Goals as goal

pub parts-init : goal.parts-init
parts-init c = (
  omega arith,
  fits_first c.args.sep.now c.first-item.result c.args.parts.now c.len-total.result c.in-len1-up.len_at_least c.first-item.is c.len-total.ensures,
)
