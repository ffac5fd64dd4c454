use Rattle.tx_script.proofs.Long.{long_law}
use Rattle.tx_script.proofs.laws.long_scripts_are_refused.Goals as goal

pub returns : goal.returns
returns c = long_law
