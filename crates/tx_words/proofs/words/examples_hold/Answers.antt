use Rattle.std.proofs.Common.{refl}
use Rattle.clap.proofs.OnLiterals.{clap_on_literals}
use Rattle.tx_words.proofs.words.examples_hold.Goals as goal

pub returns : goal.returns
unfolding clap_on_literals
returns c = record {
  plain = refl;
  options = refl;
  dashes = refl;
  generated = refl;
  too_many = refl;
  twice = refl;
}
