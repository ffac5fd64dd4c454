use Rattle.tx_parse.proofs.Covers.{covers}
use Rattle.tx_parse.proofs.laws.blocks_cover_the_tokens.Goals as goal

pub returns : goal.returns
returns c = covers
