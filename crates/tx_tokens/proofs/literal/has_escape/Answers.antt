use Rattle.tx_tokens.specs.Pieces.{backslash}
use Rattle.tx_tokens.proofs.SplitLemmas.{lacks}
use Rattle.tx_tokens.proofs.literal.has_escape.Goals as goal

pub returns : goal.returns
returns c = lacks backslash c.args.text.now c.contains.result c.utf8.text c.contains.ensures.cases
