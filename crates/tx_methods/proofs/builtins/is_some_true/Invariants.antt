use Rattle.std.proofs.Common.{◌≡◌, drop}
use Rattle.std.specs.List.{list_any}
use Rattle.tx_values.specs.Equality.{truthy}
use Rattle.tx_methods.proofs.builtins.is_some_true.Given as goal

abbrev pub invariant-loop-item : goal.invariant-loop-item
invariant-loop-item l = list_any truthy (drop l.item-index l.items) ≡ list_any truthy l.items
