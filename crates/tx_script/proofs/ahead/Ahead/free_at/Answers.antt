use Rattle.std.proofs.Common.{sym, ◌∙◌}
use Rattle.tx_script.specs.Calls.Behind.{ahead_of}
use Rattle.tx_script.proofs.Free.{is_no_pipeline}
use Rattle.tx_script.proofs.ahead.Ahead.free_at.Goals as goal

pub returns-else-is_taken-clause-free : goal.returns-else-is_taken-clause-free
returns-else-is_taken-clause-free c = is_no_pipeline (ahead_of c.args.self.now) c.args.name.now (sym c.is_taken.ensures ∙ c.if-is_taken.false)
