use Rattle.std.proofs.Common.{◌≡◌, drop}
use denote.Shadow.{shadow}
use denote.Text.{Utf8}
use Rattle.std.specs.Str.{chars}
use Rattle.tx_tokens.proofs.mark.behind_characters.Given as goal

abbrev pub invariant-loop-turn : goal.invariant-loop-turn
invariant-loop-turn l = shadow (Utf8 l.rest) × (chars l.rest ≡ drop l._turn (chars l.text))
