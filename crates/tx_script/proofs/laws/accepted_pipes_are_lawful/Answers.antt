use Rattle.tx_script.proofs.Lawful.{lawful_law}
use Rattle.tx_script.proofs.laws.accepted_pipes_are_lawful.Goals as goal

pub returns : goal.returns
returns c = lawful_law
