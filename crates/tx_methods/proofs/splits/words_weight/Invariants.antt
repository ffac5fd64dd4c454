use Rattle.std.proofs.Common.{◌≡◌, ◌+◌, ◌<◌, ◌^◌, ◌-◌, false, length, min}
use denote.Shadow.{shadow}
use denote.Text.{Utf8}
use Rattle.std.specs.Str.{chars}
use Rattle.tx_methods.specs.Calls.{words_weight}
use Rattle.tx_methods.proofs.splits.words_weight.Given as goal

abbrev pub invariant-characters : goal.invariant-characters
invariant-characters l = shadow (Utf8 l.rest) × (min (l.sum + words_weight l.within (chars l.rest)) (2 ^ 64 - 1) ≡ min (words_weight false (chars l.text)) (2 ^ 64 - 1)) × (l.sum < 2 ^ 64)

abbrev pub decreases-characters : goal.decreases-characters
decreases-characters l = length l.rest
