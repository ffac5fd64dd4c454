use Rattle.std.proofs.Common.{◌≡◌, map, drop}
use Rattle.tx_name_set.specs.NameSet.{add_all}
use Rattle.tx_script.specs.Calls.View.{link_of}
use Rattle.tx_script.specs.Calls.Files.{sources_in}
use Rattle.tx_script.proofs.files.add_sources.Given as goal

abbrev pub invariant-loop-link : goal.invariant-loop-link
invariant-loop-link l = add_all l.files (sources_in (map link_of (drop l.link-index l.links))) ≡ add_all l.fn.files (sources_in (map link_of l.links))
