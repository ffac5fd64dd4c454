use Rattle.std.proofs.Common.{◌≡◌, map, drop}
use Rattle.tx_script.specs.Calls.Files.{overwriting_each}
use Rattle.tx_script.specs.Calls.View.{entry_view}
use Rattle.tx_script.proofs.files.overwriting_in.Given as goal

abbrev pub invariant-loop-entry : goal.invariant-loop-entry
invariant-loop-entry l = overwriting_each l.files (map entry_view (drop l.entry-index l.entries)) ≡ overwriting_each l.files (map entry_view l.entries)
