use Rattle.std.proofs.Common.{◌≡◌, drop}
use Rattle.tx_pipe.specs.Pipe.{pipe_of}
use Rattle.tuplex_run.specs.Commands.{output_name}
use Rattle.tuplex_run.proofs.work.output_name.Given as goal

abbrev pub invariant-loop-node : goal.invariant-loop-node
invariant-loop-node l = output_name (pipe_of (drop l.node-index l.nodes)) ≡ output_name (pipe_of l.nodes)
