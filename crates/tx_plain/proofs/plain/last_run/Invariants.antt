use Rattle.std.proofs.Common.{◌≡◌, ◌+◌, ◌<◌, true, drop, length}
use Rattle.tx_pipe.specs.Pipe.{pipe_of}
use Rattle.tx_plain.specs.Laws.{is_run}
use Rattle.tx_plain.proofs.plain.last_run.Given as goal

abbrev pub invariant-back : goal.invariant-back
invariant-back l = (l.start < length l.nodes) × (is_run (l.start + 1) (drop l.start (pipe_of l.nodes)) ≡ true)

abbrev pub decreases-back : goal.decreases-back
decreases-back l = l.start
