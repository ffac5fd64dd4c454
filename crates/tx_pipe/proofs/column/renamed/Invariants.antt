use Rattle.std.proofs.Common.{◌≡◌, ◌++◌, drop, if◌then◌else◌}
use Rattle.tx_pipe.specs.Column.{bytes_of, renamed}
use Rattle.tx_pipe.proofs.column.renamed.Given as goal

abbrev pub invariant-loop-column : goal.invariant-loop-column
invariant-loop-column l = l.done ++ (if l.is_renamed then drop l.column-index l.left else renamed (bytes_of l.old) (bytes_of l.new_name) (drop l.column-index l.left)) ≡ renamed (bytes_of l.old) (bytes_of l.new_name) l.left
