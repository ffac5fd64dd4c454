use Rattle.std.proofs.Common.{◌≡◌, length}
use Rattle.tx_joins.proofs.index.empty_index.Given as goal

abbrev pub invariant-loop-place : goal.invariant-loop-place
invariant-loop-place l = length l.next.items ≡ l._place
