use Rattle.std.proofs.Common.{◌≡◌, map, drop}
use Rattle.tx_pipe.specs.Pipe.{pipe_of}
use Rattle.tx_script.specs.Linked.{linked_nodes}
use Rattle.tx_script.specs.Calls.View.{link_of}
use Rattle.tx_script.specs.Calls.Behind.{ahead_of}
use Rattle.tx_script.proofs.node.add_links.Given as goal

abbrev pub invariant-loop-at : goal.invariant-loop-at
invariant-loop-at l = linked_nodes (ahead_of l.ahead) (pipe_of l.pipe) l.input (map link_of (drop l.at l.links)) ≡ linked_nodes (ahead_of l.ahead) (pipe_of l.fn.pipe) l.start (map link_of l.links)
