use Rattle.tx_parse.proofs.Lines.{spelling_law}
use Rattle.tx_parse.proofs.laws.spellings_agree.Goals as goal

pub returns : goal.returns
returns c = spelling_law
