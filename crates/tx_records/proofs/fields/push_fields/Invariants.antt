use Rattle.std.proofs.Common.{◌≡◌, ◌++◌, take}
use Rattle.csv.specs.Records.{fields_of}
use Rattle.tx_records.proofs.fields.push_fields.Given as goal

abbrev pub invariant-columns : goal.invariant-columns
invariant-columns l = l.fields ≡ l.fn.fields ++ take l.i (fields_of l.row)
