use Rattle.tx_text.proofs.Ends.{contains_is}
use Rattle.tx_text.proofs.strip.is_one_of.Goals as goal

pub returns : goal.returns
returns c = contains_is c.args.those.now c.args.c c.contains.result c.utf8.those c.contains.ensures.cases
