use Rattle.std.proofs.Common.{◌≡◌, ◌≤◌, length, map, drop}
use Rattle.std.specs.List.{flat_map}
use Rattle.tx_script.specs.Checks.{names_in, pipe_use}
use Rattle.tx_script.specs.Calls.Counts.{Counts}
use Rattle.tx_script.specs.Calls.View.{entry_view}
use Rattle.tx_script.proofs.uses.pipe_use.Given as goal

abbrev pub invariant-backwards : goal.invariant-backwards
invariant-backwards l = record {
  within : l.at ≤ length l.entries;
  counts : Counts l.uses.once l.uses.twice (flat_map names_in (map entry_view (drop l.at l.entries)));
  found : l.found ≡ pipe_use (map entry_view (drop l.at l.entries));
}

abbrev pub decreases-backwards : goal.decreases-backwards
decreases-backwards l = l.at
