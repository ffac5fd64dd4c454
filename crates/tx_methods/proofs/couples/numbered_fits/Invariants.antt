use Rattle.std.proofs.Common.{◌≡◌, drop}
use Rattle.std.specs.List.{list_all}
use Rattle.tx_values.specs.Limits.{in_limits}
use Rattle.tx_methods.specs.Walks.{couple, numbered}
use Rattle.tx_methods.proofs.couples.numbered_fits.Given as goal

abbrev pub invariant-loop-place : goal.invariant-loop-place
invariant-loop-place l = list_all (λ pair. in_limits (couple pair)) (numbered l.place (drop l.place l.items)) ≡ list_all (λ pair. in_limits (couple pair)) (numbered 0 l.items)
