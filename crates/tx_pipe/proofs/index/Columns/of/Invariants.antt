use Rattle.std.proofs.Common.{◌≡◌, [], drop}
use Rattle.tx_name_set.specs.NameSet.{add_all}
use Rattle.tx_pipe.proofs.index.Columns.of.Given as goal

abbrev pub invariant-loop-name : goal.invariant-loop-name
invariant-loop-name l = add_all l.columns (drop l.name-index l.names) ≡ add_all [] l.names
