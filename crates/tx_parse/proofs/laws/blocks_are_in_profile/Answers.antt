use Rattle.tx_parse.proofs.Profile.{in_profile}
use Rattle.tx_parse.proofs.laws.blocks_are_in_profile.Goals as goal

pub returns : goal.returns
returns c = in_profile
