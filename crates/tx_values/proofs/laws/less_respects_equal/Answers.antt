use Rattle.tx_values.proofs.OrderRespectsEquality.{less_left, less_right}
use Rattle.tx_values.proofs.laws.less_respects_equal.Goals as goal

pub returns : goal.returns
returns c = record { left = less_left; right = less_right }
