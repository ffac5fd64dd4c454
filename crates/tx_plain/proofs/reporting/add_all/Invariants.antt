use Rattle.std.proofs.Common.{◌≡◌, ◌++◌, drop}
use Rattle.tx_plain.proofs.reporting.add_all.Given as goal

abbrev pub invariant-loop-entry : goal.invariant-loop-entry
invariant-loop-entry l = l.entries ++ drop l.entry-index l.all ≡ l.initial.entries ++ l.all
