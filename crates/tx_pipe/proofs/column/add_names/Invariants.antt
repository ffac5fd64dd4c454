use Rattle.std.proofs.Common.{◌≡◌, ◌++◌, drop}
use Rattle.tx_pipe.proofs.column.add_names.Given as goal

abbrev pub invariant-loop-name : goal.invariant-loop-name
invariant-loop-name l = l.done ++ drop l.name-index l.names ≡ l.fn.done ++ l.names
