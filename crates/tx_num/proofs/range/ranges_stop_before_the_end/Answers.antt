use Rattle.tx_num.proofs.Ranges.{end_law, items_law}
use Rattle.tx_num.proofs.range.ranges_stop_before_the_end.Goals as goal

pub returns : goal.returns
returns c = record { end = end_law; items = items_law }
