use Rattle.std.proofs.Common.{◌≡◌, ◌<◌, map, pos}
use Rattle.std.specs.Prelude.{◌+ℤ◌, ◌*ℤ◌}
use Rattle.tx_num.specs.Range.{items_from}
use Rattle.tx_values.specs.declared.value.Value.TheVariants as value
use Rattle.tx_methods.proofs.ranges.stepped.Given as goal

abbrev pub invariant-loop-turn : goal.invariant-loop-turn
invariant-loop-turn l = (l._turn < l.count → l.item ≡ l.first +ℤ pos l._turn *ℤ l.step) × (l.made.items ≡ map value.Int (items_from l.first l.step l._turn))
