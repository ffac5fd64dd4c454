use Rattle.tx_plain.proofs.RunLemmas.{runs}
use Rattle.tx_plain.proofs.laws.runs_are_lists.Goals as goal

pub returns : goal.returns
returns c = runs
