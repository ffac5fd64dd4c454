use Rattle.tx_parse.proofs.Exact.{one_block}
use Rattle.tx_parse.proofs.laws.tokens_tell_the_block.Goals as goal

pub returns : goal.returns
returns c = one_block
