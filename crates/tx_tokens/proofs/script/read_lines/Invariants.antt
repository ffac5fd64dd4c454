use Rattle.std.proofs.Common.{◌≡◌, ◌+◌, ◌^◌, ◌<◌, length}
use denote.Shadow.{shadow}
use denote.Text.{Utf8}
use Rattle.std.specs.Str.{chars}
use Rattle.tx_tokens.specs.Lines.{lines}
use Rattle.tx_tokens.specs.Layout.{events}
use Rattle.tx_tokens.specs.Calls.Reading.{answer, state_of}
use Rattle.tx_tokens.proofs.script.read_lines.Given as goal

abbrev pub invariant-lines : goal.invariant-lines
invariant-lines l =
    shadow (Utf8 l.rest)
    × (answer l.fn.reader (events (state_of l.fn.reader) (lines (chars l.text))) ≡ answer l.reader (events (state_of l.reader) (lines (chars l.rest))))
    × (l.reader.place + length (chars l.rest) < 2 ^ 31)
    × (l.reader.line + length (chars l.rest) < 2 ^ 31)

abbrev pub decreases-lines : goal.decreases-lines
decreases-lines l = length (chars l.rest)
