use Rattle.tx_text.proofs.Words.{words_law}
use Rattle.tx_text.proofs.split.words_stand_between_blanks.Goals as goal

pub returns : goal.returns
returns c = words_law
