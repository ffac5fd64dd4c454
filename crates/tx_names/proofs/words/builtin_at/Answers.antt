use Rattle.tx_names.proofs.Naming.{builtin_is}
use Rattle.tx_names.proofs.words.builtin_at.Goals as goal

pub returns : goal.returns
returns c = builtin_is _ c.args.name.now _ c.builtin_named.ensures c.as_str.ensures.chars
