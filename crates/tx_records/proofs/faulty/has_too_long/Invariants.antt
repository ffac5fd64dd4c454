use Rattle.std.proofs.Common.{◌≡◌, false, take}
use Rattle.std.specs.List.{list_any}
use Rattle.csv.specs.Records.{fields_of}
use Rattle.tx_records.specs.Records.{is_too_long}
use Rattle.tx_records.proofs.faulty.has_too_long.Given as goal

abbrev pub invariant-fields : goal.invariant-fields
invariant-fields l = list_any is_too_long (take l.i (fields_of l.row)) ≡ false
