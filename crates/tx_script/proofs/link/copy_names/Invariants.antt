use Rattle.std.proofs.Common.{◌≡◌, ◌++◌, drop}
use Rattle.tx_script.proofs.link.copy_names.Given as goal

abbrev pub invariant-loop-name : goal.invariant-loop-name
invariant-loop-name l = l.done ++ drop l.name-index l.names ≡ l.names
