use Rattle.std.proofs.Common.{◌≡◌, [], take}
use Rattle.csv.specs.Records.{fields_of, partial_of}
use Rattle.tx_records.proofs.output.fill_header.Given as goal

abbrev pub invariant-names : goal.invariant-names
invariant-names l = (fields_of l.line ≡ take l.name-index l.names) × (partial_of l.line ≡ [])
