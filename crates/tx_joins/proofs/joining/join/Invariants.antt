use Rattle.std.proofs.Common.{◌≡◌, ◌++◌, drop}
use Rattle.tx_joins.specs.Join.{joined_rows}
use Rattle.tx_joins.proofs.joining.join.Given as goal

abbrev pub invariant-loop-place : goal.invariant-loop-place
invariant-loop-place l =
    l.rows ++ joined_rows l.keep l.width l.left_key l.right_key (drop l.place l.all) l.right
    ≡ joined_rows l.keep l.width l.left_key l.right_key l.all l.right
