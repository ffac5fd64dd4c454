use Rattle.std.proofs.Common.{◌∙◌}
use Rattle.tx_script.proofs.Reserved.{builtin_is}
use Rattle.tx_script.proofs.ahead.is_builtin.Goals as goal

pub returns : goal.returns
returns c = c.is_some.ensures ∙ builtin_is c.builtin_named.result c.as_str.result.now c.args.name.now c.builtin_named.ensures c.as_str.ensures.chars
