use Rattle.tx_names.proofs.Soundness.{soundness}
use Rattle.tx_names.proofs.laws.linked_functions_are_sound.Goals as goal

pub returns : goal.returns
returns c = soundness
