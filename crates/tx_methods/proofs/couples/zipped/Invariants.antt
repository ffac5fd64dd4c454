use Rattle.std.proofs.Common.{◌≡◌, ◌++◌, drop, map}
use Rattle.std.specs.Prelude.{zip}
use Rattle.tx_methods.specs.Walks.{couple}
use Rattle.tx_methods.proofs.couples.zipped.Given as goal

abbrev pub invariant-loop-at : goal.invariant-loop-at
invariant-loop-at l = l.made.items ++ map couple (zip (drop l.at l.lefts) (drop l.at l.rights)) ≡ map couple (zip l.lefts l.rights)
