use Rattle.std.proofs.Common.{◌≡◌, ◌++◌, drop, if◌then◌else◌}
use Rattle.tx_pipe.specs.Column.{bytes_of, without}
use Rattle.tx_pipe.proofs.column.add_without.Given as goal

abbrev pub invariant-loop-column : goal.invariant-loop-column
invariant-loop-column l = l.done ++ (if l.is_met then drop l.column-index l.right else without (bytes_of l.key) (drop l.column-index l.right)) ≡ l.fn.done ++ without (bytes_of l.key) l.right
