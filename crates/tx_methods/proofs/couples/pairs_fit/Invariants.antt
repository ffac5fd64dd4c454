use Rattle.std.proofs.Common.{◌≡◌, drop}
use Rattle.std.specs.List.{list_all}
use Rattle.tx_values.specs.Limits.{in_limits}
use Rattle.tx_methods.specs.Walks.{couple}
use Rattle.tx_methods.proofs.couples.pairs_fit.Given as goal

abbrev pub invariant-loop-pair : goal.invariant-loop-pair
invariant-loop-pair l = list_all (λ pair. in_limits (couple pair)) (drop l.pair-index l.pairs) ≡ list_all (λ pair. in_limits (couple pair)) l.pairs
