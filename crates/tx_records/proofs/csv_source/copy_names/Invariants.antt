use Rattle.std.proofs.Common.{◌≡◌, take}
use Rattle.tx_records.proofs.csv_source.copy_names.Given as goal

abbrev pub invariant-copied : goal.invariant-copied
invariant-copied l = l.copies ≡ take l.name-index l.names
