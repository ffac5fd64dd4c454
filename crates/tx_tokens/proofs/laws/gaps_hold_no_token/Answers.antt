use Rattle.tx_tokens.proofs.GapLemmas.{apart}
use Rattle.tx_tokens.proofs.laws.gaps_hold_no_token.Goals as goal

pub returns : goal.returns
returns c = apart
