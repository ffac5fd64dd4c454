use Rattle.std.proofs.Common.{◌≡◌, ◌++◌, drop}
use Rattle.tx_pipe.specs.Pipe.{pipe_of}
use Rattle.tx_plain.specs.Pipeline.{kinds_of}
use Rattle.tx_plain.proofs.plain.kinds_of.Given as goal

abbrev pub invariant-loop-node : goal.invariant-loop-node
invariant-loop-node l = l.kinds ++ kinds_of (pipe_of (drop l.node-index l.nodes)) ≡ kinds_of (pipe_of l.nodes)
