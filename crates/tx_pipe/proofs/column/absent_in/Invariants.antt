use Rattle.std.proofs.Common.{◌≡◌, drop}
use Rattle.tx_pipe.specs.Calls.Asking.{absent_among}
use Rattle.tx_pipe.proofs.column.absent_in.Given as goal

abbrev pub invariant-loop-name : goal.invariant-loop-name
invariant-loop-name l = absent_among l.columns (drop l.name-index l.names) ≡ absent_among l.columns l.names
