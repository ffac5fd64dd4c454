use Rattle.std.proofs.Common.{◌≡◌, map, drop}
use Rattle.tx_script.specs.Checks.{handler_place}
use Rattle.tx_script.specs.Calls.View.{entry_view}
use Rattle.tx_script.proofs.check.handler_place.Given as goal

abbrev pub invariant-loop-entry : goal.invariant-loop-entry
invariant-loop-entry l = handler_place (map entry_view (drop l.entry-index l.entries)) ≡ handler_place (map entry_view l.entries)
