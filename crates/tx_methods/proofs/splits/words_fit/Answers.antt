use Rattle.tx_methods.proofs.TextLists as lists
use Rattle.tx_methods.proofs.splits.words_fit.Goals as goal

pub returns : goal.returns
returns c = lists.words_fit c.args.text.now c.words_weight.result (rw c.as_str.ensures.chars at c.words_weight.ensures)
