use Rattle.std.proofs.Common.{◌≡◌, ◌+◌, ◌^◌, ◌-◌, ◌<◌, min, map, drop}
use Rattle.tx_tree.specs.Tree.{link_of}
use Rattle.tx_tree.specs.Calls.Count.{count_links}
use Rattle.tx_tree.proofs.count.count_of_links.Given as goal

abbrev pub invariant-loop-link : goal.invariant-loop-link
invariant-loop-link l = (min (l.sum + count_links (map link_of (drop l.link-index l.links))) (2 ^ 64 - 1) ≡ min (count_links (map link_of l.links)) (2 ^ 64 - 1)) × (l.sum < 2 ^ 64)
