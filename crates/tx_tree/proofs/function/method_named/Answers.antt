use Rattle.tx_tree.specs.Words.{method_word}
use Rattle.tx_tree.proofs.Ascii.{by_chars, method_ascii}
use Rattle.tx_tree.proofs.function.method_named.Goals as goal

pub returns : goal.returns
returns c = λ x. by_chars c.args.word.now (method_word x) c.utf8.word (method_ascii x) (c.method_of_bytes.ensures x)
