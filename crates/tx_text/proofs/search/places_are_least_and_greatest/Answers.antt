use Rattle.tx_text.proofs.Places.{places_law}
use Rattle.tx_text.proofs.search.places_are_least_and_greatest.Goals as goal

pub returns : goal.returns
returns c = places_law
