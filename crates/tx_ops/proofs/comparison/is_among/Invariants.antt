use Rattle.std.proofs.Common.{◌≡◌, drop}
use Rattle.std.specs.List.{list_any}
use Rattle.tx_values.specs.Equality.{equal}
use Rattle.tx_ops.proofs.comparison.is_among.Given as goal

abbrev pub invariant-loop-item : goal.invariant-loop-item
invariant-loop-item l = list_any (equal l.a) (drop l.item-index l.items) ≡ list_any (equal l.a) l.items
