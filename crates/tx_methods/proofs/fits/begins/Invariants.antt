use Rattle.std.proofs.Common.{◌≡◌, length}
use denote.Shadow.{shadow}
use denote.Text.{Utf8}
use Rattle.std.specs.Str.{chars}
use Rattle.tx_text.specs.Text.{begins}
use Rattle.tx_methods.proofs.fits.begins.Given as goal

abbrev pub invariant-characters : goal.invariant-characters
invariant-characters l = shadow (Utf8 l.rest) × shadow (Utf8 l.left) × (begins (chars l.left) (chars l.rest) ≡ begins (chars l.part) (chars l.text))

abbrev pub decreases-characters : goal.decreases-characters
decreases-characters l = length l.left
