use Rattle.tx_tree.specs.Words.{mark_word}
use Rattle.tx_tree.proofs.Ascii.{by_chars, mark_ascii}
use Rattle.tx_tree.proofs.symbol.mark_named.Goals as goal

pub returns : goal.returns
returns c = λ x. by_chars c.args.word.now (mark_word x) c.utf8.word (mark_ascii x) (c.mark_of_bytes.ensures x)
