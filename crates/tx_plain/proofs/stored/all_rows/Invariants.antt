use Rattle.std.proofs.Common.{◌≡◌, ◌++◌, drop}
use Rattle.tx_records.specs.Records.{rows_of}
use Rattle.tx_plain.proofs.stored.all_rows.Given as goal

abbrev pub invariant-loop-place : goal.invariant-loop-place
invariant-loop-place l = l.rows ++ drop l.place (rows_of l.raw) ≡ rows_of l.raw
