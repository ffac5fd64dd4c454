use Rattle.std.proofs.Common.{◌≡◌, drop}
use Rattle.std.specs.List.{list_all}
use Rattle.tx_values.specs.Equality.{truthy}
use Rattle.tx_methods.proofs.builtins.are_all_true.Given as goal

abbrev pub invariant-loop-item : goal.invariant-loop-item
invariant-loop-item l = list_all truthy (drop l.item-index l.items) ≡ list_all truthy l.items
