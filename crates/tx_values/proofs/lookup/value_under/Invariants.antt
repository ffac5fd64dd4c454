use Rattle.std.proofs.Common.{◌≡◌, drop}
use Rattle.tx_values.specs.Lookup.{value_under}
use Rattle.tx_values.proofs.lookup.value_under.Given as goal

abbrev pub invariant-loop-pair : goal.invariant-loop-pair
invariant-loop-pair l = value_under l.key (drop l.pair-index l.pairs) ≡ value_under l.key l.pairs
