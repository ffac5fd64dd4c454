use Rattle.std.proofs.Common.{sym, ◌∙◌}
use Rattle.tx_script.proofs.Ends.{ahead_of_links}
use Rattle.tx_script.proofs.check.end_ahead.Goals as goal

pub returns-in-Some : goal.returns-in-Some
returns-in-Some c = c.end_in.ensures ∙ sym (ahead_of_links c.args.links.now c.in-Some.ahead.now _ c.in-Some.ensures.cases.0)
