use Rattle.tx_meaning.proofs.Numbering.{numbered_same}
use Rattle.tx_meaning.proofs.laws.numbered_functions_mean_the_same.Goals as goal

pub returns : goal.returns
returns c = numbered_same
