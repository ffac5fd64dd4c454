use Rattle.tx_text.proofs.Counting.{count_law}
use Rattle.tx_text.proofs.search.counts_are_of_pieces.Goals as goal

pub returns : goal.returns
returns c = count_law
