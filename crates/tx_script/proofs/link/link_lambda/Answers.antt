use Rattle.std.proofs.Common.{sym, ◌∙◌}
use Rattle.tx_tree.specs.Tree.{tree_of}
use Rattle.tx_names.specs.Bind.{defs_of, known_of, bound_lambda}
use Rattle.tx_names.specs.Faults.{faults_of_lambda}
use Rattle.tx_script.proofs.Told.{told_ok, told_fault, err_same}
use Rattle.tx_script.proofs.link.link_lambda.Goals as goal

pub returns-in-Ok-clause-ok : goal.returns-in-Ok-clause-ok
returns-in-Ok-clause-ok c = told_ok _ _ c.in-Ok.ensures.function

pub returns-in-Err-clause-fault : goal.returns-in-Err-clause-fault
returns-in-Err-clause-fault c = λ f h.
    told_fault (bound_lambda (defs_of c.args.ahead.now.defs) c.args.role c.args.line c.args.params.now (tree_of c.args.body.now))
    (faults_of_lambda (known_of (defs_of c.args.ahead.now.defs)) c.args.role c.args.line c.args.params.now (tree_of c.args.body.now))
    c.bind_lambda.result c.in-Err.e f
    (c.faults_are_told.ensures.lambda_with_slots (defs_of c.args.ahead.now.defs) c.args.role c.args.line c.args.params.now (tree_of c.args.body.now))
    (λ g k. c.bind_lambda.ensures.fault g k) c.in-Err.is (sym c.told.ensures ∙ err_same _ _ h)
