use Rattle.std.proofs.Common.{◌≡◌, ◌++◌, drop}
use Rattle.tx_methods.specs.Calls.{keys_of}
use Rattle.tx_methods.proofs.walks.keys_of.Given as goal

abbrev pub invariant-loop-pair : goal.invariant-loop-pair
invariant-loop-pair l = l.made.items ++ keys_of (drop l.pair-index l.pairs) ≡ keys_of l.pairs
