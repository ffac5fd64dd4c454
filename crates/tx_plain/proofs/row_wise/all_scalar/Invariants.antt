use Rattle.std.proofs.Common.{◌≡◌, drop}
use Rattle.tx_records.specs.Output.{all_scalar}
use Rattle.tx_plain.proofs.row_wise.all_scalar.Given as goal

abbrev pub invariant-loop-cell : goal.invariant-loop-cell
invariant-loop-cell l = all_scalar (drop l.cell-index l.cells) ≡ all_scalar l.cells
