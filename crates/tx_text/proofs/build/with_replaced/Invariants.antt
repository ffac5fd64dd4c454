use Rattle.std.proofs.Common.{◌≡◌, ◌++◌, length}
use denote.Shadow.{shadow}
use denote.Text.{Utf8}
use Rattle.std.specs.Str.{chars}
use Rattle.tx_text.specs.Text.{joined, pieces}
use Rattle.tx_text.proofs.build.with_replaced.Given as goal

abbrev pub invariant-cuts : goal.invariant-cuts
invariant-cuts l = shadow (Utf8 l.rest) × (joined (chars l.other) (pieces (chars l.part) (chars l.text)) ≡ l.made ++ joined (chars l.other) (pieces (chars l.part) (chars l.rest)))

abbrev pub decreases-cuts : goal.decreases-cuts
decreases-cuts l = length l.rest
