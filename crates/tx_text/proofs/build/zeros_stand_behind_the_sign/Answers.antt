use Rattle.tx_text.proofs.Builds.{zeros_law}
use Rattle.tx_text.proofs.build.zeros_stand_behind_the_sign.Goals as goal

pub returns : goal.returns
returns c = zeros_law
