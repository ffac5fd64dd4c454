use Rattle.std.proofs.Common.{◌≡◌, ◌++◌, length}
use denote.Shadow.{shadow}
use denote.Text.{Utf8}
use Rattle.std.specs.Str.{chars}
use Rattle.tx_text.specs.Text.{words}
use Rattle.tx_text.proofs.split.words_of.Given as goal

abbrev pub invariant-words : goal.invariant-words
invariant-words l = shadow (Utf8 l.rest) × (words (chars l.text) ≡ l.found ++ words (chars l.rest))

abbrev pub decreases-words : goal.decreases-words
decreases-words l = length l.rest
