use Rattle.std.proofs.Common.{◌≡◌, ◌++◌, drop, map}
use Rattle.tx_methods.specs.Walks.{couple, numbered}
use Rattle.tx_methods.proofs.couples.numbered.Given as goal

abbrev pub invariant-loop-place : goal.invariant-loop-place
invariant-loop-place l = l.made.items ++ map couple (numbered l.place (drop l.place l.items)) ≡ map couple (numbered 0 l.items)
