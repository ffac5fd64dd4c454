use Rattle.tx_tokens.proofs.SplitLemmas.{split_before, split_none, split_some}
use Rattle.tx_tokens.proofs.cursor.split_at_first.Goals as goal

pub returns-clause-none : goal.returns-clause-none
returns-clause-none c = split_none c.args.mark c.args.text.now c.utf8.text c.split_once.result c.split_once.ensures.cases

pub returns-clause-some : goal.returns-clause-some
returns-clause-some c = split_some c.args.mark c.args.text.now c.utf8.text c.requires c.split_once.result c.split_once.ensures.cases

pub returns-clause-before : goal.returns-clause-before
returns-clause-before c = split_before c.args.mark c.args.text.now c.utf8.text c.requires c.split_once.result c.split_once.ensures.cases
