use Rattle.std.proofs.Common.{◌≡◌, [], take, true}
use Rattle.csv.specs.Records.{fields_of, partial_of}
use Rattle.tx_records.specs.Output as output
use Rattle.tx_records.proofs.output.fill_line.Given as goal

abbrev pub invariant-cells : goal.invariant-cells
invariant-cells l = record {
  fields : fields_of l.line ≡ output.fields_of (take l.cell-index l.cells);
  partial : partial_of l.line ≡ [];
  scalar : output.all_scalar (take l.cell-index l.cells) ≡ true;
}
