use Rattle.tx_names.proofs.Numbering.{numbering}
use Rattle.tx_names.proofs.laws.slots_stand_for_names.Goals as goal

pub returns : goal.returns
returns c = numbering
