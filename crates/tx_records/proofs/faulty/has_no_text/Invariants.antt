use Rattle.std.proofs.Common.{◌≡◌, false, take}
use Rattle.std.specs.List.{list_any}
use Rattle.csv.specs.Records.{fields_of}
use Rattle.tx_records.specs.Records.{is_no_text}
use Rattle.tx_records.proofs.faulty.has_no_text.Given as goal

abbrev pub invariant-fields : goal.invariant-fields
invariant-fields l = list_any is_no_text (take l.i (fields_of l.row)) ≡ false
