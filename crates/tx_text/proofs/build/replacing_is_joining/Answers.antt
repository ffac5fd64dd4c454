use Rattle.tx_text.proofs.Builds.{replace_law}
use Rattle.tx_text.proofs.build.replacing_is_joining.Goals as goal

pub returns : goal.returns
returns c = replace_law
