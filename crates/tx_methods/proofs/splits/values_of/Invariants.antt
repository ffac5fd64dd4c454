use Rattle.std.proofs.Common.{◌≡◌, map}
use Rattle.tx_values.specs.declared.value.Value.TheVariants as value
use Rattle.tx_methods.proofs.splits.values_of.Given as goal

abbrev pub invariant-loop-text : goal.invariant-loop-text
invariant-loop-text l = l.made.items ≡ map value.Text l.yielded
