use Rattle.std.proofs.Common.{◌≡◌, ◌++◌, replicate}
use Rattle.tx_values.specs.declared.value.Value.TheVariants.{Nil}
use Rattle.tx_joins.proofs.row_copies.alone_row.Given as goal

abbrev pub invariant-loop-column : goal.invariant-loop-column
invariant-loop-column l = l.cells.items ≡ l.initial.cells.items ++ replicate l.column Nil
