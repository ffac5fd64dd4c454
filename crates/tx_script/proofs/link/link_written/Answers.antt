use Rattle.std.proofs.Common.{◌≡◌, Ok, Err, IfOk, subst, ap, ◌∙◌}
use Rattle.tx_tree.specs.Tree.{tree_of}
use Rattle.tx_names.specs.Bind.{defs_of, function_of, bound_lambda}
use Rattle.tx_script.specs.Linked.{told, role_or}
use Rattle.tx_script.proofs.link.link_written.Goals as goal

pub returns-clause-ok : goal.returns-clause-ok
returns-clause-ok c =
    subst (λ r. IfOk c.link_lambda.result (λ f. told (bound_lambda (defs_of c.args.ahead.now.defs) r c.args.line c.args.params.now (tree_of c.args.body.now)) ≡ Ok (function_of f)))
    (c.in_ok-role.ensures ∙ ap (role_or c.args.role) c.len.ensures) c.link_lambda.ensures.ok

pub returns-clause-fault : goal.returns-clause-fault
returns-clause-fault c = λ f h.
    subst (λ r. told (bound_lambda (defs_of c.args.ahead.now.defs) r c.args.line c.args.params.now (tree_of c.args.body.now)) ≡ Err f)
    (c.in_ok-role.ensures ∙ ap (role_or c.args.role) c.len.ensures) (c.link_lambda.ensures.fault f h)
