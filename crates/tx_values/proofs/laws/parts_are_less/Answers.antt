use Rattle.tx_values.proofs.PartsAreLess.{parts_within}
use Rattle.tx_values.proofs.laws.parts_are_less.Goals as goal

pub returns : goal.returns
returns c = parts_within
