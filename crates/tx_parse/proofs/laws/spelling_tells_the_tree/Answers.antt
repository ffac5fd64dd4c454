use Rattle.tx_parse.proofs.OneTree.{one_tree}
use Rattle.tx_parse.proofs.laws.spelling_tells_the_tree.Goals as goal

pub returns : goal.returns
returns c = one_tree c.lines_are_left_out.ensures.same_form
