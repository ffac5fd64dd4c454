use Rattle.std.proofs.Common.{◌≡◌, ◌^◌, ◌-◌, ◌<◌, max, min, map, drop}
use Rattle.tx_tree.specs.Tree.{link_of}
use Rattle.tx_tree.specs.Depth.{depth_links}
use Rattle.tx_tree.proofs.depths.depth_of_links.Given as goal

abbrev pub invariant-loop-link : goal.invariant-loop-link
invariant-loop-link l = (min (max l.most (depth_links (map link_of (drop l.link-index l.links)))) (2 ^ 32 - 1) ≡ min (depth_links (map link_of l.links)) (2 ^ 32 - 1)) × (l.most < 2 ^ 32)
