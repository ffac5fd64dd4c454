use Rattle.std.proofs.Common.{refl}
use Rattle.std.specs.Str.{chars}
use Rattle.tx_text.proofs.build.zeros.Goals as goal

pub returns : goal.returns
unfolding chars
returns c = refl
