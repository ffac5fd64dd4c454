use Rattle.std.proofs.Common.{◌≡◌, ◌++◌, map, drop}
use Rattle.tx_pipe.specs.Column.{bytes_of}
use Rattle.tx_script.proofs.operator.names_of.Given as goal

abbrev pub invariant-loop-text : goal.invariant-loop-text
invariant-loop-text l = l.done ++ map bytes_of (drop l.text-index l.texts) ≡ map bytes_of l.texts
