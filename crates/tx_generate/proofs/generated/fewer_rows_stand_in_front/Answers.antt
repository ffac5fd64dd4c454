use Rattle.tx_generate.proofs.RowsLeft.{rows-split}
use Rattle.tx_generate.proofs.generated.fewer_rows_stand_in_front.Goals as goal

pub returns : goal.returns
returns c = rows-split
