use Rattle.std.proofs.Common.{◌≡◌, drop}
use Rattle.tx_pipe.specs.Pipe.{pipe_of}
use Rattle.tx_pipe.specs.Column.{schemas_behind, schemas}
use Rattle.tx_pipe.proofs.column.schemas_of.Given as goal

abbrev pub invariant-loop-node : goal.invariant-loop-node
invariant-loop-node l = schemas_behind l.headers l.made (pipe_of (drop l.node-index l.nodes)) ≡ schemas l.headers (pipe_of l.nodes)
