use Rattle.std.proofs.Common.{sym, ap, ◌∙◌}
use Rattle.tx_names.specs.Faults.{first_some}
use Rattle.tx_script.specs.Checks.{last_fault}
use Rattle.tx_script.specs.Calls.View.{entry_view}
use Rattle.tx_script.proofs.Ends.{end_of_entries}
use Rattle.tx_script.proofs.check.no_end.Goals as goal

pub returns-in-Some-inner_faults : goal.returns-in-Some-inner_faults
returns-in-Some-inner_faults c = ap (λ o. first_some o (last_fault (entry_view c.in-Some.last.now))) c.in-Some-inner_faults.ensures ∙ sym (end_of_entries c.args.entries.now c.in-Some.ahead.now c.in-Some.last.now c.in-Some.ensures.cases.0)

pub returns-in-None : goal.returns-in-None
returns-in-None c = c.last_fault.ensures ∙ ap (λ o. first_some o (last_fault (entry_view c.in-Some.last.now))) c.in-None.ensures ∙ sym (end_of_entries c.args.entries.now c.in-Some.ahead.now c.in-Some.last.now c.in-Some.ensures.cases.0)
