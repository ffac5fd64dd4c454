use Rattle.std.proofs.Common.{◌≡◌, ◌+◌, ◌≤◌, drop, length}
use denote.Shadow.{shadow}
use denote.Text.{Utf8}
use Rattle.std.specs.List.{prefix_len}
use Rattle.std.specs.Str.{chars}
use Rattle.tx_tokens.specs.Pieces.{is_blank}
use Rattle.tx_tokens.proofs.word.blanks.Given as goal

abbrev pub invariant-blanks : goal.invariant-blanks
invariant-blanks l =
    shadow (Utf8 l.rest) × (l.size + prefix_len is_blank (chars l.rest) ≡ prefix_len is_blank (chars l.text)) × (chars l.rest ≡ drop l.size (chars l.text)) × (l.size + length l.rest ≤ length l.text)

abbrev pub decreases-blanks : goal.decreases-blanks
decreases-blanks l = length l.rest
