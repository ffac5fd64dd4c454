use Rattle.tx_tokens.proofs.OrderLemmas.{in_order}
use Rattle.tx_tokens.proofs.laws.events_are_in_order.Goals as goal

pub returns : goal.returns
returns c = in_order
