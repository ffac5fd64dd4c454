use Rattle.tx_text.proofs.Pieces.{first_cuts_law}
use Rattle.tx_text.proofs.split.pieces_end_at_first_places.Goals as goal

pub returns : goal.returns
returns c = first_cuts_law
