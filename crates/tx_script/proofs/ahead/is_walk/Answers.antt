use Rattle.std.proofs.Common.{◌∙◌, ap, not, Some, None}
use Rattle.tx_script.proofs.Reserved.{walk_is}
use Rattle.tx_script.proofs.ahead.is_walk.Goals as goal

pub returns-in-Some : goal.returns-in-Some
returns-in-Some c = ap not c.is_view.ensures ∙ walk_is (Some c.in-Some.walk) c.as_str.result.now c.args.name.now c.in-Some.ensures c.as_str.ensures.chars

pub returns-in-None : goal.returns-in-None
returns-in-None c = walk_is None c.as_str.result.now c.args.name.now c.in-None.ensures c.as_str.ensures.chars
