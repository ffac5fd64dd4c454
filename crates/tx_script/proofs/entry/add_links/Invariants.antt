use Rattle.std.proofs.Common.{◌≡◌, map, drop}
use Rattle.tx_tree.specs.Tree.{link_of as link_tree}
use Rattle.tx_script.specs.Forms.{link_place}
use Rattle.tx_script.specs.Calls.View.{link_of}
use Rattle.tx_script.specs.Calls.Formed.{formed_behind}
use Rattle.tx_script.proofs.entry.add_links.Given as goal

abbrev pub invariant-loop-link : goal.invariant-loop-link
invariant-loop-link l = formed_behind (map link_of l.links) (map link_place (map link_tree (drop l.link-index l.written))) ≡ formed_behind (map link_of l.fn.links) (map link_place (map link_tree l.written))
