use Rattle.std.proofs.Common.{◌≡◌, ◌++◌, length, map}
use denote.Shadow.{shadow}
use denote.Text.{Utf8}
use Rattle.std.specs.Str.{chars}
use Rattle.tx_methods.specs.Walks.{character}
use Rattle.tx_methods.proofs.walks.characters.Given as goal

abbrev pub invariant-characters : goal.invariant-characters
invariant-characters l = shadow (Utf8 l.rest) × (l.made.items ++ map character (chars l.rest) ≡ map character (chars l.text))

abbrev pub decreases-characters : goal.decreases-characters
decreases-characters l = length l.rest
