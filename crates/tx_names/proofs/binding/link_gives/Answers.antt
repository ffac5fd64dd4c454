use Rattle.std.proofs.Common.{◌≡◌, None, List, Ok, Err, take, subst, option_copied}
use Rattle.std.specs.Result.{IfOk}
use Rattle.tx_tree.specs.Tree.{tree_of}
use Rattle.tx_name_set.specs.NameSet.{place_in}
use Rattle.tx_names.specs.Scope.{Text, Scope, locals_of_lambda, names_of_lambda, row_param, scope_of_lambda}
use Rattle.tx_names.specs.Linked.{linked}
use Rattle.tx_names.specs.View.{expr_of}
use Rattle.tx_names.specs.Bind.{defs_of}
use Rattle.tx_names.specs.Calls.Around.{inner_names}
use Rattle.tx_names.proofs.Scopes.{scope, outermost}
use Rattle.tx_names.proofs.binding.link_gives.Goals as goal

pub returns-clause-ok : goal.returns-clause-ok
returns-clause-ok c =
    let h : IfOk c.link.result (λ x. linked (place_in c.in_ok-met.met.names) (defs_of c.args.earlier.now) (scope None (inner_names c.in_ok-nothing.nothing.value (take c.in_ok-met.met.base c.in_ok-met.met.names)) (option_copied c.row_param-row.result)) (tree_of c.args.body.now) ≡ Ok (expr_of x)) = c.link.ensures.ok in
    let s : scope None (inner_names c.in_ok-nothing.nothing.value (take c.in_ok-met.met.base c.in_ok-met.met.names)) (option_copied c.row_param-row.result) ≡ scope_of_lambda c.args.role c.args.params.now
    = outermost None c.in_ok-nothing.nothing.value _ (locals_of_lambda c.args.role c.args.params.now) _ (row_param c.args.role c.args.params.now) c.in_ok-nothing.ensures.ok c.in_ok-met.ensures.locals c.row_param-row.ensures in
    subst (λ (z : Scope). IfOk c.link.result (λ x. linked (place_in (names_of_lambda c.args.role c.args.params.now (tree_of c.args.body.now))) (defs_of c.args.earlier.now) z (tree_of c.args.body.now) ≡ Ok (expr_of x))) s
    (subst (λ (ns : List Text). IfOk c.link.result (λ x. linked (place_in ns) (defs_of c.args.earlier.now) (scope None (inner_names c.in_ok-nothing.nothing.value (take c.in_ok-met.met.base c.in_ok-met.met.names)) (option_copied c.row_param-row.result)) (tree_of c.args.body.now) ≡ Ok (expr_of x)))
    c.in_ok-met.ensures.names h)

pub returns-clause-fault : goal.returns-clause-fault
returns-clause-fault c e q =
    let h : linked (place_in c.in_ok-met.met.names) (defs_of c.args.earlier.now) (scope None (inner_names c.in_ok-nothing.nothing.value (take c.in_ok-met.met.base c.in_ok-met.met.names)) (option_copied c.row_param-row.result)) (tree_of c.args.body.now) ≡ Err e = c.link.ensures.fault e q in
    let s : scope None (inner_names c.in_ok-nothing.nothing.value (take c.in_ok-met.met.base c.in_ok-met.met.names)) (option_copied c.row_param-row.result) ≡ scope_of_lambda c.args.role c.args.params.now
    = outermost None c.in_ok-nothing.nothing.value _ (locals_of_lambda c.args.role c.args.params.now) _ (row_param c.args.role c.args.params.now) c.in_ok-nothing.ensures.ok c.in_ok-met.ensures.locals c.row_param-row.ensures in
    subst (λ (z : Scope). linked (place_in (names_of_lambda c.args.role c.args.params.now (tree_of c.args.body.now))) (defs_of c.args.earlier.now) z (tree_of c.args.body.now) ≡ Err e) s
    (subst (λ (ns : List Text). linked (place_in ns) (defs_of c.args.earlier.now) (scope None (inner_names c.in_ok-nothing.nothing.value (take c.in_ok-met.met.base c.in_ok-met.met.names)) (option_copied c.row_param-row.result)) (tree_of c.args.body.now) ≡ Err e)
    c.in_ok-met.ensures.names h)
