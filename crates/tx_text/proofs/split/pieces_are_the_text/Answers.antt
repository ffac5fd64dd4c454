use Rattle.tx_text.proofs.Pieces.{pieces_law}
use Rattle.tx_text.proofs.split.pieces_are_the_text.Goals as goal

pub returns : goal.returns
returns c = pieces_law
