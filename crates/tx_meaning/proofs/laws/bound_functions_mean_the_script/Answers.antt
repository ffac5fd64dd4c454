use Rattle.tx_meaning.proofs.Binding.{bound_same}
use Rattle.tx_meaning.proofs.laws.bound_functions_mean_the_script.Goals as goal

pub returns : goal.returns
returns c = bound_same c.slots_stand_for_names.ensures c.linked_functions_are_sound.ensures
