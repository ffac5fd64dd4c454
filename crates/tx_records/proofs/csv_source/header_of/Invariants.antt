use Rattle.std.proofs.Common.{◌≡◌, take}
use Rattle.csv.specs.Records.{fields_of}
use Rattle.tx_records.proofs.csv_source.header_of.Given as goal

abbrev pub invariant-fields : goal.invariant-fields
invariant-fields l = l.names ≡ take l.i (fields_of l.row)
