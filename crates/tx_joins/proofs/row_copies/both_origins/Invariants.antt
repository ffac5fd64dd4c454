use Rattle.std.proofs.Common.{◌≡◌, ◌++◌, drop}
use Rattle.tx_joins.proofs.row_copies.both_origins.Given as goal

abbrev pub invariant-loop-mark : goal.invariant-loop-mark
invariant-loop-mark l = l.origin ++ drop l.mark-index l.mark-items ≡ l.left ++ l.mark-items
