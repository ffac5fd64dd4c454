use Rattle.std.proofs.Common.{◌≡◌, ◌+◌, drop}
use Rattle.std.specs.List.{prefix_len}
use Rattle.tx_tokens.specs.Pieces.{is_word_char}
use Rattle.tx_tokens.proofs.word.word_len.Given as goal

abbrev pub invariant-loop-byte : goal.invariant-loop-byte
invariant-loop-byte l = (l.size ≡ l.byte-index) × (l.size + prefix_len is_word_char (drop l.byte-index l.bytes) ≡ prefix_len is_word_char l.bytes)
