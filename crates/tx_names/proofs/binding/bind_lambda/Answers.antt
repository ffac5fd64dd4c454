use Rattle.std.proofs.Common.{◌≡◌, Err, List, sym, ap, ◌∙◌}
use Rattle.tx_tree.specs.Tree.{tree_of}
use Rattle.tx_names.specs.Scope.{Text}
use Rattle.tx_names.specs.Bind.{defs_of, function_of, error_of, bound_lambda}
use Rattle.tx_names.proofs.Bindings.{lambda_fine, lambda_fault}
use Rattle.tx_names.proofs.binding.bind_lambda.Goals as goal

pub returns-in-Ok-clause-ok : goal.returns-in-Ok-clause-ok
returns-in-Ok-clause-ok c =
    lambda_fine (defs_of c.args.earlier.now) c.args.role c.args.at c.args.params.now (tree_of c.args.body.now) (function_of c.in-Ok.function)
    (ap (λ (ps : List Text). bound_lambda (defs_of c.args.earlier.now) c.args.role c.args.at ps (tree_of c.args.body.now)) (sym c.as_slice.ensures) ∙ c.in-Ok.ensures.ok)

pub returns-in-Ok-clause-function : goal.returns-in-Ok-clause-function
returns-in-Ok-clause-function c = ap (λ (ps : List Text). bound_lambda (defs_of c.args.earlier.now) c.args.role c.args.at ps (tree_of c.args.body.now)) (sym c.as_slice.ensures) ∙ c.in-Ok.ensures.ok

pub returns-in-Err-clause-fault : goal.returns-in-Err-clause-fault
returns-in-Err-clause-fault c e h =
    let r : c.error_of.result ≡ error_of e = cc h in
    lambda_fault (defs_of c.args.earlier.now) c.args.role c.args.at c.args.params.now (tree_of c.args.body.now) e
    (ap (λ (ps : List Text). bound_lambda (defs_of c.args.earlier.now) c.args.role c.args.at ps (tree_of c.args.body.now)) (sym c.as_slice.ensures) ∙ c.in-Err.ensures.fault e (ap Err (c.error_of.ensures e r)))
