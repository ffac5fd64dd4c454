use Rattle.std.proofs.Common.{◌≡◌, map, drop, option_map, None}
use Rattle.std.specs.Option.{option_copied}
use Rattle.tx_script.specs.Checks.{stray_handler}
use Rattle.tx_script.specs.Calls.View.{form_of, link_of}
use Rattle.tx_script.proofs.check.stray_handler.Given as goal

abbrev pub invariant-loop-link : goal.invariant-loop-link
invariant-loop-link l = stray_handler (option_map form_of (option_copied l.owner)) (map link_of (drop l.link-index l.links)) ≡ stray_handler None (map link_of l.links)
