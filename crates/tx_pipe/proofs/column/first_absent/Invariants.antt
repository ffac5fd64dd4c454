use Rattle.std.proofs.Common.{◌≡◌, ◌+◌, drop}
use Rattle.tx_pipe.specs.Pipe.{pipe_of}
use Rattle.tx_pipe.specs.Column.{first_absent_from}
use Rattle.tx_pipe.proofs.column.first_absent.Given as goal

abbrev pub invariant-loop-node : goal.invariant-loop-node
invariant-loop-node l = (l.number ≡ l.node-index + 1) × (first_absent_from l.number l.all (pipe_of (drop l.node-index l.nodes)) ≡ first_absent_from 1 l.all (pipe_of l.nodes))
