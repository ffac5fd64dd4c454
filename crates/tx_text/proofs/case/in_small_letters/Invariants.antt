use Rattle.std.proofs.Common.{◌≡◌, [], ◌∷◌, flat_map}
use Rattle.tx_text.specs.Text.{lower_char}
use Rattle.tx_text.proofs.case.in_small_letters.Given as goal

abbrev pub invariant-loop-c : goal.invariant-loop-c
invariant-loop-c l = l.made ≡ flat_map (λ c. lower_char c ∷ []) l.yielded
