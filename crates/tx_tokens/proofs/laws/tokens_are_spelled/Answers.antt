use Rattle.tx_tokens.proofs.SpellingLemmas.{spelled}
use Rattle.tx_tokens.proofs.laws.tokens_are_spelled.Goals as goal

pub returns : goal.returns
returns c = spelled
