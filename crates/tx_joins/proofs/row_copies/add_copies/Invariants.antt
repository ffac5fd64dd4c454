use Rattle.std.proofs.Common.{◌≡◌, ◌++◌, drop}
use Rattle.tx_joins.proofs.row_copies.add_copies.Given as goal

abbrev pub invariant-loop-value : goal.invariant-loop-value
invariant-loop-value l = l.cells.items ++ drop l.value-index l.values ≡ l.initial.cells.items ++ l.values
