use Rattle.std.proofs.Common.{◌≡◌, ◌+◌, ◌≤◌, length}
use denote.Shadow.{shadow}
use denote.Text.{Utf8}
use Rattle.std.specs.Str.{chars}
use Rattle.tx_text.specs.Text.{pieces}
use Rattle.tx_text.proofs.search.occurrences.Given as goal

abbrev pub invariant-places : goal.invariant-places
invariant-places l = shadow (Utf8 l.rest) × (l.found + length l.rest ≤ length l.text)
    × (length (pieces (chars l.part) (chars l.text)) ≡ l.found + length (pieces (chars l.part) (chars l.rest)))

abbrev pub decreases-places : goal.decreases-places
decreases-places l = length l.rest
