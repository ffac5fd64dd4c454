use Rattle.tx_methods.proofs.Zips.{zip_law}
use Rattle.tx_methods.proofs.laws.zip_stops_at_the_shorter.Goals as goal

pub returns : goal.returns
returns c = zip_law
