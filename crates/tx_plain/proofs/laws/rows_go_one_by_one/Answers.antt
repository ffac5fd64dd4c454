use Rattle.tx_plain.proofs.OneByOne.{row_by_row}
use Rattle.tx_plain.proofs.laws.rows_go_one_by_one.Goals as goal

pub returns : goal.returns
returns c = row_by_row
