use Rattle.std.proofs.Common.{◌≡◌, map, drop}
use Rattle.tx_script.specs.Calls.Ends.{inner_faults}
use Rattle.tx_script.specs.Calls.View.{entry_view}
use Rattle.tx_script.proofs.check.inner_faults.Given as goal

abbrev pub invariant-loop-entry : goal.invariant-loop-entry
invariant-loop-entry l = inner_faults (map entry_view (drop l.entry-index l.entries)) ≡ inner_faults (map entry_view l.entries)
