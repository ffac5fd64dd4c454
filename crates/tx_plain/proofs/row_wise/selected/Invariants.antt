use Rattle.std.proofs.Common.{◌≡◌, ◌++◌, drop}
use Rattle.tx_plain.specs.RowWise.{selected}
use Rattle.tx_plain.proofs.row_wise.selected.Given as goal

abbrev pub invariant-loop-name : goal.invariant-loop-name
invariant-loop-name l = l.cells.items ++ selected l.schema (drop l.name-index l.name-items) l.row ≡ selected l.schema l.name-items l.row
