use Rattle.std.proofs.Common.{◌≡◌, map, drop}
use Rattle.tx_script.specs.Checks.{end_in}
use Rattle.tx_script.specs.Calls.View.{link_of}
use Rattle.tx_script.proofs.check.end_in.Given as goal

abbrev pub invariant-loop-link : goal.invariant-loop-link
invariant-loop-link l = end_in (map link_of (drop l.link-index l.links)) ≡ end_in (map link_of l.links)
