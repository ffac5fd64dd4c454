use Rattle.std.proofs.Common.{◌∙◌, ◌-◌}
use Rattle.std.proofs.lemmas.Result.{IfOk-weaker}
use Rattle.tuplex_run.proofs.Runs.{deed_is}
use Rattle.tuplex_run.proofs.work.run_over.Goals as goal

pub returns-in-Ok-clause-deed : goal.returns-in-Ok-clause-deed
returns-in-Ok-clause-deed g c =
    let e = c.in-Ok.ensures in
    IfOk-weaker c.files_of.result _ _
    (λ run h. h ∙ deed_is c.as_slice.result.now c.args.prepared.now.pipe c.in-Ok.answer _ c.args.stats c.args.steps.now c.run_plain.new.steps _ c.as_slice.ensures e.answer e.steps)
    (c.files_of.ensures (c.run_plain.new.steps - c.args.steps.now))
