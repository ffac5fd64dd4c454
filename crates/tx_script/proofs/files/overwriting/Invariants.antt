use Rattle.std.proofs.Common.{◌≡◌, map, drop}
use Rattle.tx_script.specs.Checks.{overwriting}
use Rattle.tx_script.specs.Calls.View.{link_of}
use Rattle.tx_script.proofs.files.overwriting.Given as goal

abbrev pub invariant-loop-link : goal.invariant-loop-link
invariant-loop-link l = overwriting l.files (map link_of (drop l.link-index l.links)) ≡ overwriting l.files (map link_of l.links)
