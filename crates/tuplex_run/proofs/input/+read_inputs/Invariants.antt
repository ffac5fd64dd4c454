use Rattle.std.proofs.Common.{length}
use Rattle.tuplex_run.proofs.input.+read_inputs.Given as goal

abbrev pub decreases-read_inputs : goal.decreases-read_inputs
decreases-read_inputs g l = length l.nodes.now
