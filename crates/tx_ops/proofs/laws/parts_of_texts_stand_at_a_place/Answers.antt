use Rattle.tx_ops.proofs.LawLemmas.{parts_stand}
use Rattle.tx_ops.proofs.laws.parts_of_texts_stand_at_a_place.Goals as goal

pub returns : goal.returns
returns c = parts_stand c.places_are_least_and_greatest.ensures
