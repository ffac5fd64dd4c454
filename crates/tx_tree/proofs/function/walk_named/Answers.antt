use Rattle.tx_tree.specs.Words.{walk_word}
use Rattle.tx_tree.proofs.Ascii.{by_chars, walk_ascii}
use Rattle.tx_tree.proofs.function.walk_named.Goals as goal

pub returns : goal.returns
returns c = λ x. by_chars c.args.word.now (walk_word x) c.utf8.word (walk_ascii x) (c.walk_of_bytes.ensures x)
