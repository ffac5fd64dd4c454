use Rattle.tx_tokens.proofs.OrderLemmas.{spans_rise}
use Rattle.tx_tokens.proofs.laws.spans_rise.Goals as goal

pub returns : goal.returns
returns c = spans_rise
