use Rattle.std.proofs.Common.{◌≡◌, ◌++◌, drop, map}
use Rattle.tx_pipe.specs.Pipe.{handling_of}
use Rattle.tx_plain.specs.Operators.{not_ignored}
use Rattle.tx_plain.proofs.reporting.add_not_ignored.Given as goal

abbrev pub invariant-loop-entry : goal.invariant-loop-entry
invariant-loop-entry l = l.entries ++ not_ignored (map handling_of l.handlers) (drop l.entry-index l.all) ≡ l.initial.entries ++ not_ignored (map handling_of l.handlers) l.all
