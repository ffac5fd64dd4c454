use Rattle.tx_names.proofs.Naming.{method_is}
use Rattle.tx_names.proofs.words.method_at.Goals as goal

pub returns : goal.returns
returns c = method_is _ c.args.name.now _ c.method_named.ensures c.as_str.ensures.chars
