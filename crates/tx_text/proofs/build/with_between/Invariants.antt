use Rattle.std.proofs.Common.{◌≡◌, ◌++◌, length}
use denote.Shadow.{shadow}
use denote.Text.{Utf8}
use Rattle.std.specs.Str.{chars}
use Rattle.tx_text.specs.Text.{between}
use Rattle.tx_text.proofs.build.with_between.Given as goal

abbrev pub invariant-characters : goal.invariant-characters
invariant-characters l = shadow (Utf8 l.rest) × (between (chars l.new) (chars l.text) ≡ l.made ++ between (chars l.new) (chars l.rest))

abbrev pub decreases-characters : goal.decreases-characters
decreases-characters l = length l.rest
