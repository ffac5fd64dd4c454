use Rattle.std.proofs.Common.{sym, ◌∙◌}
use Rattle.tx_script.proofs.Ends.{last_of_links}
use Rattle.tx_script.proofs.check.ends_in_output.Goals as goal

pub returns-in-Some : goal.returns-in-Some
returns-in-Some c = c.writes.ensures ∙ sym (last_of_links c.args.links.now _ c.in-Some.last.now c.in-Some.ensures.cases.0)
