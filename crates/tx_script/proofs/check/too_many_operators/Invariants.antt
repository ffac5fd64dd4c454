use Rattle.std.proofs.Common.{◌≡◌, map, drop}
use Rattle.std.specs.Prelude.{slice_get}
use Rattle.std.specs.List.{flat_map}
use Rattle.tx_pipe.specs.Lawful.{most_operators}
use Rattle.tx_script.specs.Calls.View.{entry_view}
use Rattle.tx_script.proofs.check.too_many_operators.Given as goal

abbrev pub invariant-loop-entry : goal.invariant-loop-entry
invariant-loop-entry l = slice_get (flat_map (λ e. e.links) (map entry_view (drop l.entry-index l.entries))) l.left ≡ slice_get (flat_map (λ e. e.links) (map entry_view l.entries)) most_operators
