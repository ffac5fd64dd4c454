use Rattle.tx_place.proofs.Named.{named_eq}
use Rattle.tx_place.proofs.memory_place.is_named.Goals as goal

pub returns : goal.returns
returns c = named_eq c.args.name.now c.args.file.now.0 c.as_str.result.now c.eq.result c.utf8.name c.as_str.ensures.bytes c.as_str.ensures.chars c.eq.ensures
