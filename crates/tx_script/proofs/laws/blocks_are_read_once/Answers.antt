use Rattle.tx_script.proofs.ReadOnce.{one_reading}
use Rattle.tx_script.proofs.laws.blocks_are_read_once.Goals as goal

pub returns : goal.returns
returns c = one_reading c.tokens_tell_the_block.ensures c.blocks_are_in_profile.ensures
