use Rattle.std.proofs.Common.{◌≡◌, Ok, Err, length, sym, ap, ◌∙◌, rules}
use Rattle.tx_tree.specs.Tree.{tree_of}
use Rattle.tx_names.specs.declared.fault.FaultKind.TheVariants.{Arity}
use Rattle.tx_names.specs.Scope.{role_size}
use Rattle.tx_names.specs.Faults.{fault}
use Rattle.tx_names.specs.View.{expr_of}
use Rattle.tx_names.specs.Bind.{defs_of}
use Rattle.tx_names.proofs.Bindings.{defs_sound, lambda_params_refused, lambda_refused, lambda_bound, lambda_sound}
use Rattle.tx_names.proofs.binding.link_lambda.Goals as goal

pub returns-in_err-has_params-clause-fault : goal.returns-in_err-has_params-clause-fault
returns-in_err-has_params-clause-fault c e h =
    let k : (e ≡ fault Arity c.args.at) × (length c.args.params.now ≡ role_size c.args.role → ⊥) = c.in_err-has_params.ensures.fault e (search rules) in
    lambda_params_refused (defs_of c.args.earlier.now) c.args.role c.args.at c.args.params.now (tree_of c.args.body.now) k.1 ∙ ap Err (sym k.0)

pub returns-in_err-linked-clause-fault : goal.returns-in_err-linked-clause-fault
returns-in_err-linked-clause-fault c e h = lambda_refused (defs_of c.args.earlier.now) c.args.role c.args.at c.args.params.now (tree_of c.args.body.now) e c.in_ok-has_params.ensures.ok (c.in_err-linked.ensures.fault e (search rules))

pub lambda_of-requires : goal.lambda_of-requires
lambda_of-requires c = lambda_sound (defs_of c.args.earlier.now) c.args.role c.args.at c.args.params.now (tree_of c.args.body.now) (expr_of c.in_ok-linked.linked) (defs_sound c.args.earlier.now) c.in_ok-has_params.ensures.ok c.in_ok-linked.ensures.ok

pub returns-clause-ok : goal.returns-clause-ok
returns-clause-ok c = lambda_bound (defs_of c.args.earlier.now) c.args.role c.args.at c.args.params.now (tree_of c.args.body.now) (expr_of c.in_ok-linked.linked) c.in_ok-has_params.ensures.ok c.in_ok-linked.ensures.ok ∙ ap Ok (sym c.in_ok-lambda_of.ensures)
