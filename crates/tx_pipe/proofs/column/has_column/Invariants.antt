use Rattle.std.proofs.Common.{◌≡◌, drop}
use Rattle.tx_name_set.specs.NameSet.{is_in}
use Rattle.tx_pipe.specs.Column.{bytes_of}
use Rattle.tx_pipe.proofs.column.has_column.Given as goal

abbrev pub invariant-loop-column : goal.invariant-loop-column
invariant-loop-column l = is_in (drop l.column-index l.left) (bytes_of l.name) ≡ is_in l.left (bytes_of l.name)
