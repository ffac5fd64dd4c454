use Rattle.std.proofs.Common.{◌≡◌, map, drop, [], ◌∷◌}
use Rattle.std.specs.List.{flat_map}
use Rattle.tx_name_set.specs.NameSet.{add_all}
use Rattle.tx_script.specs.Calls.View.{entry_view}
use Rattle.tx_script.specs.Calls.Files.{entry_sources}
use Rattle.tx_script.proofs.files.files_read.Given as goal

abbrev pub invariant-loop-entry : goal.invariant-loop-entry
invariant-loop-entry l = add_all l.files (flat_map entry_sources (map entry_view (drop l.entry-index l.entries))) ≡ add_all [] (l.own ∷ flat_map entry_sources (map entry_view l.entries))
