use Rattle.tx_text.proofs.Splits.{split_none, split_some}
use Rattle.tx_text.proofs.search.first_split.Goals as goal

pub returns-clause-none : goal.returns-clause-none
returns-clause-none c = split_none c.args.part.now c.args.text.now c.utf8.part c.utf8.text c.split_once.result c.split_once.ensures.cases

pub returns-clause-some : goal.returns-clause-some
returns-clause-some c = split_some c.args.part.now c.args.text.now c.utf8.part c.utf8.text c.split_once.result c.split_once.ensures.cases
