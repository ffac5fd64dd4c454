use Rattle.tuplex_run.proofs.VerdictLemmas.{one_verdict}
use Rattle.tuplex_run.proofs.laws.verdicts_are_one.Goals as goal

pub returns : goal.returns
returns c = one_verdict c.blocks_are_read_once.ensures
