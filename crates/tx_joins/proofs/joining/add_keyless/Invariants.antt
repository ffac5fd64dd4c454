use Rattle.std.proofs.Common.{◌≡◌, ◌++◌, drop}
use Rattle.tx_joins.specs.Join.{keyless}
use Rattle.tx_joins.proofs.joining.add_keyless.Given as goal

abbrev pub invariant-loop-row : goal.invariant-loop-row
invariant-loop-row l = l.origins ++ keyless l.column (drop l.row-index l.row-items) ≡ l.initial.origins ++ keyless l.column l.row-items
