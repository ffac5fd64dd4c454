use Rattle.std.proofs.Common.{◌≡◌, map, drop}
use Rattle.tx_pipe.specs.Pipe.{pipe_of}
use Rattle.tx_script.specs.Linked.{linked, linked_script}
use Rattle.tx_script.specs.Calls.View.{entry_view}
use Rattle.tx_script.specs.Calls.Behind.{AreLinked, ahead_of}
use Rattle.tx_script.proofs.node.pipe_of_entries.Given as goal

abbrev pub invariant-loop-entry : goal.invariant-loop-entry
invariant-loop-entry l = AreLinked l.ahead × (linked (ahead_of l.ahead) (pipe_of l.pipe) (map entry_view (drop l.entry-index l.entries)) ≡ linked_script (map entry_view l.entries))
