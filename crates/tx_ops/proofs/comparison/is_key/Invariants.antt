use Rattle.std.proofs.Common.{◌≡◌, drop}
use Rattle.std.specs.List.{list_any}
use Rattle.tx_values.specs.Equality.{equal}
use Rattle.tx_ops.proofs.comparison.is_key.Given as goal

abbrev pub invariant-loop-pair : goal.invariant-loop-pair
invariant-loop-pair l = list_any (λ p. equal l.a p.0) (drop l.pair-index l.pairs) ≡ list_any (λ p. equal l.a p.0) l.pairs
