use Rattle.std.proofs.Common.{◌≡◌, length, option_map}
use denote.Shadow.{shadow}
use denote.Text.{Utf8}
use Rattle.std.specs.Str.{chars}
use Rattle.tx_text.specs.Text.{is_taken, without_back}
use Rattle.tx_text.proofs.strip.back_trimmed.Given as goal

abbrev pub invariant-back : goal.invariant-back
invariant-back l = shadow (Utf8 l.rest) × (without_back (is_taken (option_map (λ t. chars t.now) l.of)) (chars l.text) ≡ without_back (is_taken (option_map (λ t. chars t.now) l.of)) (chars l.rest))

abbrev pub decreases-back : goal.decreases-back
decreases-back l = length l.rest
