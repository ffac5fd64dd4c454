use Rattle.std.proofs.Common.{◌≡◌, map, drop}
use Rattle.std.specs.List.{list_all}
use Rattle.tx_tree.specs.Tree.{link_of}
use Rattle.tx_tree.specs.Form.{fine_link}
use Rattle.tx_tree.proofs.form.are_fine_links.Given as goal

abbrev pub invariant-loop-link : goal.invariant-loop-link
invariant-loop-link l = list_all fine_link (map link_of (drop l.link-index l.links)) ≡ list_all fine_link (map link_of l.links)
