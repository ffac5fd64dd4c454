use Rattle.tx_tokens.proofs.BalanceLemmas.{balanced}
use Rattle.tx_tokens.proofs.laws.layout_is_balanced.Goals as goal

pub returns : goal.returns
returns c = balanced
