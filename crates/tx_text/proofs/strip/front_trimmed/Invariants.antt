use Rattle.std.proofs.Common.{◌≡◌, length, option_map}
use denote.Shadow.{shadow}
use denote.Text.{Utf8}
use Rattle.std.specs.Str.{chars}
use Rattle.tx_text.specs.Text.{is_taken, without_front}
use Rattle.tx_text.proofs.strip.front_trimmed.Given as goal

abbrev pub invariant-front : goal.invariant-front
invariant-front l = shadow (Utf8 l.rest) × (without_front (is_taken (option_map (λ t. chars t.now) l.of)) (chars l.text) ≡ without_front (is_taken (option_map (λ t. chars t.now) l.of)) (chars l.rest))

abbrev pub decreases-front : goal.decreases-front
decreases-front l = length l.rest
