use Rattle.std.proofs.Common.{◌≡◌, ◌++◌, List, [], ◌∷◌, ap, ◌∙◌}
use Rattle.std.proofs.lemmas.Result.{on_ok_weaker}
use Rattle.tx_plain.specs.declared.stored.Stored.{Stored}
use Rattle.tx_plain.specs.declared.stored.Stored.TheVariants as stored_is
use Rattle.tx_plain.specs.Calls.Holding.{rows_stored}
use Rattle.tx_plain.proofs.RunSteps.{run_step, run_step_most}
use Rattle.tx_plain.proofs.plain.step_run.Goals as goal

pub returns-in_err-rows-clause-most : goal.returns-in_err-rows-clause-most
returns-in_err-rows-clause-most g c start w = run_step_most c.args.sources.now c.args.s.now c.args.nodes.now c.requires.lawful c.args.at c.args.count start c.args.steps.now c.args.work.now.stored.items c.args.work.now.entries c.index-nodes-at.result c.requires.some c.requires.within c.index-nodes-at.is c.requires.run w (rows_stored c.take-stored.result) c.take-stored.ensures.taken c.run_rows.new.steps c.run_rows.ensures.most

pub returns-in_err-push_nothing-clause-most : goal.returns-in_err-push_nothing-clause-most
returns-in_err-push_nothing-clause-most g c start w = run_step_most c.args.sources.now c.args.s.now c.args.nodes.now c.requires.lawful c.args.at c.args.count start c.args.steps.now c.args.work.now.stored.items c.args.work.now.entries c.index-nodes-at.result c.requires.some c.requires.within c.index-nodes-at.is c.requires.run w (rows_stored c.take-stored.result) c.take-stored.ensures.taken c.run_rows.new.steps c.run_rows.ensures.most

pub returns-clause-most : goal.returns-clause-most
returns-clause-most g c start w = run_step_most c.args.sources.now c.args.s.now c.args.nodes.now c.requires.lawful c.args.at c.args.count start c.args.steps.now c.args.work.now.stored.items c.args.work.now.entries c.index-nodes-at.result c.requires.some c.requires.within c.index-nodes-at.is c.requires.run w (rows_stored c.take-stored.result) c.take-stored.ensures.taken c.run_rows.new.steps c.run_rows.ensures.most

pub returns-clause-worked : goal.returns-clause-worked
returns-clause-worked g c start w =
    on_ok_weaker c.add.result
    (λ (h : c.add.new.all.items ≡ c.push_nothing.new.stored.items ++ stored_is.Made c.in_ok-rows.rows ∷ []).
    run_step c.args.sources.now c.args.s.now c.args.nodes.now c.requires.lawful c.args.at c.args.count start c.args.steps.now c.args.work.now.stored.items c.args.work.now.entries c.index-nodes-at.result c.requires.some c.requires.within c.index-nodes-at.is c.requires.run w (rows_stored c.take-stored.result) c.take-stored.ensures.taken
    c.take-stored.new.all.items c.add.new.all.items c.in_ok-rows.rows c.run_rows.new.entries c.run_rows.new.steps
    c.take-stored.ensures.len c.take-stored.ensures.others
    c.in_ok-rows.ensures.rows c.in_ok-rows.ensures.entries c.in_ok-rows.ensures.steps
    (h ∙ ap (λ (l : List Stored). l ++ stored_is.Made c.in_ok-rows.rows ∷ []) c.in_ok-push_nothing.ensures))
    c.add.ensures
