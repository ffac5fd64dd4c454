use Rattle.std.proofs.Common.{◌≡◌, length}
use denote.Shadow.{shadow}
use denote.Text.{Utf8}
use Rattle.std.specs.Str.{chars}
use Rattle.tx_num.specs.ReadInt.{read_int}
use Rattle.tx_num.specs.Calls.Reading.{any_rest_read}
use Rattle.tx_num.proofs.read.read_text.Given as goal

abbrev pub invariant-characters : goal.invariant-characters
invariant-characters l = shadow (Utf8 l.rest) × (any_rest_read l.reading (chars l.rest) ≡ read_int (chars l.text))

abbrev pub decreases-characters : goal.decreases-characters
decreases-characters l = length l.rest
