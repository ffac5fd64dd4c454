use Rattle.std.proofs.Common.{◌≡◌, ◌^◌, ◌≤◌, filter, length}
use denote.Shadow.{shadow}
use denote.Text.{Utf8}
use Rattle.std.specs.Str.{chars}
use Rattle.std.specs.Str.Parse.{digits_value_after}
use Rattle.tx_text.specs.Text.{is_ascii_digit}
use Rattle.tx_tokens.specs.Pieces.{value_of}
use Rattle.tx_tokens.specs.Calls.Walking.{capped}
use Rattle.tx_tokens.proofs.integer.number.Given as goal

abbrev pub invariant-digits : goal.invariant-digits
invariant-digits l =
    shadow (Utf8 l.rest) × (capped (digits_value_after 10 l.number (filter is_ascii_digit (chars l.rest))) ≡ capped (value_of (chars l.text))) × (l.number ≤ 2 ^ 127)

abbrev pub decreases-digits : goal.decreases-digits
decreases-digits l = length l.rest
