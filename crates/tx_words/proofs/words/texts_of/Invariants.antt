use Rattle.std.proofs.Common.{◌≡◌, map, take, encode_utf8_all}
use Rattle.tx_words.proofs.words.texts_of.Given as goal

abbrev pub invariant-words : goal.invariant-words
invariant-words l = map (λ s. s.now) l.texts.items ≡ map encode_utf8_all (take l.word-index l.words)
