use Rattle.std.proofs.Common.{◌≡◌, drop}
use Rattle.std.specs.Prelude.{zip}
use Rattle.std.specs.List.{list_all}
use Rattle.tx_values.specs.Limits.{in_limits}
use Rattle.tx_methods.specs.Walks.{couple}
use Rattle.tx_methods.proofs.couples.zip_fits.Given as goal

abbrev pub invariant-loop-at : goal.invariant-loop-at
invariant-loop-at l = list_all (λ pair. in_limits (couple pair)) (zip (drop l.at l.lefts) (drop l.at l.rights)) ≡ list_all (λ pair. in_limits (couple pair)) (zip l.lefts l.rights)
