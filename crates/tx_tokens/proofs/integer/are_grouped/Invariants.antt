use Rattle.std.proofs.Common.{◌≡◌, false, length}
use denote.Shadow.{shadow}
use denote.Text.{Utf8}
use Rattle.std.specs.Str.{chars}
use Rattle.tx_tokens.specs.Calls.Walking.{goes_on}
use Rattle.tx_tokens.proofs.integer.are_grouped.Given as goal

abbrev pub invariant-digits : goal.invariant-digits
invariant-digits l = shadow (Utf8 l.rest) × (goes_on l.last l.after_underscore (chars l.rest) ≡ goes_on l.last false (chars l.text))

abbrev pub decreases-digits : goal.decreases-digits
decreases-digits l = length l.rest
