use Rattle.tx_tree.specs.Words.{keyword_word}
use Rattle.tx_tree.proofs.Ascii.{by_chars, keyword_ascii}
use Rattle.tx_tree.proofs.symbol.keyword_named.Goals as goal

pub returns : goal.returns
returns c = λ x. by_chars c.args.word.now (keyword_word x) c.utf8.word (keyword_ascii x) (c.keyword_of_bytes.ensures x)
