use Rattle.std.proofs.Common.{◌≡◌, true, false, not, arith}
use Rattle.std.proofs.lemmas.Grind.{common_steps}
use Rattle.tx_name_set.specs.NameSet.{is_in}
use Rattle.tx_script.proofs.UsesLemmas.{counts_new, counts_old}
use Rattle.tx_script.proofs.uses.Uses.add.Goals as goal

pub returns-in_ok-add : goal.returns-in_ok-add
returns-in_ok-add c more counts =
    let old : false ≡ not (is_in c.args.self.now.once c.args.name.now) = grind (arith, common_steps, c.if-not-is_new.true, c.in_ok-is_new.ensures.is_new) in
    counts_old _ _ more _ _ c.args.name.now counts old c.in_ok-is_new.ensures.added c.in_ok-add.ensures.added

pub returns-else-not-is_new : goal.returns-else-not-is_new
returns-else-not-is_new c more counts =
    let new : true ≡ not (is_in c.args.self.now.once c.args.name.now) = grind (arith, common_steps, c.if-not-is_new.false, c.in_ok-is_new.ensures.is_new) in
    counts_new _ _ more _ c.args.name.now counts new c.in_ok-is_new.ensures.added
