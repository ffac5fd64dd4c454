use Rattle.std.proofs.Common.{◌≡◌, drop}
use Rattle.tx_methods.specs.Calls.{joined_weight, keys_of}
use Rattle.tx_methods.proofs.joins.joined_weight_of_keys.Given as goal

abbrev pub invariant-loop-pair : goal.invariant-loop-pair
invariant-loop-pair l = joined_weight l.sum l.each (keys_of (drop l.pair-index l.pairs)) ≡ joined_weight 0 l.each (keys_of l.pairs)
