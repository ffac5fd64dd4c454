use Rattle.tx_place.proofs.Named.{replaced_at}
use Rattle.tx_place.proofs.memory_place.replace.Goals as goal

pub returns : goal.returns
returns c = replaced_at c.args.files.now.items c.args.at c.index_mut.result.now c.args.bytes c.requires c.index_mut.ensures.value
