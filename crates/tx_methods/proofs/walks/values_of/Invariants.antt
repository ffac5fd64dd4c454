use Rattle.std.proofs.Common.{◌≡◌, ◌++◌, drop}
use Rattle.tx_methods.specs.Calls.{values_of}
use Rattle.tx_methods.proofs.walks.values_of.Given as goal

abbrev pub invariant-loop-pair : goal.invariant-loop-pair
invariant-loop-pair l = l.made.items ++ values_of (drop l.pair-index l.pairs) ≡ values_of l.pairs
