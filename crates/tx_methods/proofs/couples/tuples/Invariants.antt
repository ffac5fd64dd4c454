use Rattle.std.proofs.Common.{◌≡◌, ◌++◌, drop, map}
use Rattle.tx_methods.specs.Walks.{couple}
use Rattle.tx_methods.proofs.couples.tuples.Given as goal

abbrev pub invariant-loop-pair : goal.invariant-loop-pair
invariant-loop-pair l = l.made.items ++ map couple (drop l.pair-index l.pairs) ≡ map couple l.pairs
