use Rattle.std.proofs.Common.{◌≡◌, ◌-◌, ◌≤◌, map}
use Rattle.tx_tree.specs.Tree.{link_of}
use Rattle.tx_parse.specs.Calls.Blocks.{more_links, links}
use Rattle.tx_parse.proofs.chain.links.Given as goal

abbrev pub invariant-loop-turn : goal.invariant-loop-turn
invariant-loop-turn l = (l._turn ≤ l.most) × (more_links l.left (l.most - l._turn) (map link_of l.done) l.cursor ≡ links l.left l.fn.cursor)
