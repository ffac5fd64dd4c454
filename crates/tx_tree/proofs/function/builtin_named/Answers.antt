use Rattle.tx_tree.specs.Words.{builtin_word}
use Rattle.tx_tree.proofs.Ascii.{by_chars, builtin_ascii}
use Rattle.tx_tree.proofs.function.builtin_named.Goals as goal

pub returns : goal.returns
returns c = λ x. by_chars c.args.word.now (builtin_word x) c.utf8.word (builtin_ascii x) (c.builtin_of_bytes.ensures x)
