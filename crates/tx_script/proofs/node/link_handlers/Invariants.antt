use Rattle.std.proofs.Common.{◌≡◌, ◌++◌, map, drop, Ok}
use Rattle.tx_pipe.specs.Pipe.{handling_of}
use Rattle.tx_script.specs.Linked.{◌>>=◌, linked_handlers}
use Rattle.tx_script.specs.Calls.View.{link_of}
use Rattle.tx_script.specs.Calls.Behind.{ahead_of}
use Rattle.tx_script.proofs.node.link_handlers.Given as goal

abbrev pub invariant-loop-link : goal.invariant-loop-link
invariant-loop-link l = linked_handlers (ahead_of l.ahead) l.role (map link_of (drop l.link-index l.links)) >>= (λ hs. Ok (map handling_of l.done ++ hs)) ≡ linked_handlers (ahead_of l.ahead) l.role (map link_of l.links)
