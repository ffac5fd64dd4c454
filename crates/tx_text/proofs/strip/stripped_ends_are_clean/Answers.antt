use Rattle.tx_text.proofs.Ends.{strip_law}
use Rattle.tx_text.proofs.strip.stripped_ends_are_clean.Goals as goal

pub returns : goal.returns
returns c = strip_law
