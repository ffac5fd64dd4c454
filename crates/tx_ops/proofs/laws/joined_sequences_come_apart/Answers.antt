use Rattle.tx_ops.proofs.LawLemmas.{joined_apart}
use Rattle.tx_ops.proofs.laws.joined_sequences_come_apart.Goals as goal

pub returns : goal.returns
returns c = joined_apart
