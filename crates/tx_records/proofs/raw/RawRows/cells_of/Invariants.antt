use Rattle.std.proofs.Common.{◌≡◌, take}
use Rattle.std.specs.Prelude.{map}
use Rattle.tx_records.specs.Cell.{value_of}
use Rattle.tx_records.specs.Records.{numbered_at}
use Rattle.tx_records.proofs.raw.RawRows.cells_of.Given as goal

abbrev pub invariant-columns : goal.invariant-columns
invariant-columns l = l.cells.items ≡ map (value_of l.self.dialect.null) (take l.column (numbered_at l.self l.row).1)
