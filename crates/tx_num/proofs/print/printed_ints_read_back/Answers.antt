use Rattle.tx_num.proofs.Plain.{printed_law}
use Rattle.tx_num.proofs.print.printed_ints_read_back.Goals as goal

pub returns : goal.returns
returns c = printed_law
