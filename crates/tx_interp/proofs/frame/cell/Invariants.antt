use Rattle.std.proofs.Common.{◌≡◌, drop}
use Rattle.tx_meaning.specs.Maps.{row_of}
use Rattle.tx_interp.proofs.frame.cell.Given as goal

abbrev pub invariant-loop-i : goal.invariant-loop-i
invariant-loop-i l = row_of (drop l.i l.names) (drop l.i l.cells) l.column ≡ row_of l.names l.cells l.column
