use Rattle.std.proofs.Common.{◌≡◌, Ok, Err, map, length, sym, ap, ◌∙◌, subst, rules}
use Rattle.tx_tree.specs.Tree.{body_of}
use Rattle.tx_name_set.specs.NameSet.{place_in}
use Rattle.tx_names.specs.declared.role.Role.{Role}
use Rattle.tx_names.specs.declared.role.Role.TheVariants.{Plain}
use Rattle.tx_names.specs.declared.fault.FaultKind.TheVariants.{Arity}
use Rattle.tx_names.specs.declared.fault.Stop.TheVariants as stop
use Rattle.tx_names.specs.Scope.{role_size, names_of_def, scope_of_def}
use Rattle.tx_names.specs.Faults.{fault}
use Rattle.tx_names.specs.Linked.{does_body}
use Rattle.tx_names.specs.View.{statements, statement_of}
use Rattle.tx_names.specs.Bind.{defs_of}
use Rattle.tx_names.proofs.Bindings.{defs_sound, def_refused, params_refused, row_refused, def_bound, def_sound}
use Rattle.tx_names.proofs.binding.bind_def.Goals as goal

pub returns-in_err-as_def-clause-fault : goal.returns-in_err-as_def-clause-fault
returns-in_err-as_def-clause-fault c e h =
    def_refused (defs_of c.args.earlier.now) c.args.role c.args.at c.args.name.now c.args.params.now (body_of c.args.suite.now) (place_in (names_of_def (Plain 0) c.args.params.now (body_of c.args.suite.now))) e (c.in_err-as_def.ensures.fault e (search rules))

pub returns-in_err-has_params-clause-fault : goal.returns-in_err-has_params-clause-fault
returns-in_err-has_params-clause-fault c e h =
    let k : (e ≡ fault Arity c.args.at) × (length c.args.params.now ≡ role_size c.args.role → ⊥) = c.in_err-has_params.ensures.fault e (search rules) in
    params_refused (defs_of c.args.earlier.now) c.args.role c.args.at c.args.name.now c.args.params.now (body_of c.args.suite.now) (place_in (names_of_def (Plain 0) c.args.params.now (body_of c.args.suite.now))) (statements (map statement_of c.in_ok-as_def.as_def)) c.in_ok-as_def.ensures.ok k.1 ∙ ap Err (sym k.0)

pub def_of-requires : goal.def_of-requires
def_of-requires c =
    def_sound (defs_of c.args.earlier.now) c.args.role c.args.at c.args.name.now c.args.params.now (body_of c.args.suite.now) (place_in (names_of_def (Plain 0) c.args.params.now (body_of c.args.suite.now))) (statements (map statement_of c.in_ok-as_def.as_def)) (statements (map statement_of c.in_ok-as_def.as_def)) (defs_sound c.args.earlier.now) c.in_ok-as_def.ensures.ok c.in_ok-has_params.ensures.ok
    (subst (λ (q : Role). does_body (place_in (names_of_def q c.args.params.now (body_of c.args.suite.now))) (defs_of c.args.earlier.now) (scope_of_def q c.args.name.now c.args.params.now (body_of c.args.suite.now)) (body_of c.args.suite.now) ≡ Ok (statements (map statement_of c.in_ok-as_def.as_def)))
    (sym c.in-Plain.is) c.in_ok-as_def.ensures.ok)

pub def_of-requires-in-Ok : goal.def_of-requires-in-Ok
def_of-requires-in-Ok c =
    def_sound (defs_of c.args.earlier.now) c.args.role c.args.at c.args.name.now c.args.params.now (body_of c.args.suite.now) (place_in (names_of_def (Plain 0) c.args.params.now (body_of c.args.suite.now))) (statements (map statement_of c.in_ok-as_def.as_def)) (statements (map statement_of c.in-Ok.used)) (defs_sound c.args.earlier.now) c.in_ok-as_def.ensures.ok c.in_ok-has_params.ensures.ok c.in-Ok.ensures.ok

pub returns-in-Ok-clause-ok : goal.returns-in-Ok-clause-ok
returns-in-Ok-clause-ok c =
    def_bound (defs_of c.args.earlier.now) c.args.role c.args.at c.args.name.now c.args.params.now (body_of c.args.suite.now) (place_in (names_of_def (Plain 0) c.args.params.now (body_of c.args.suite.now))) (statements (map statement_of c.in_ok-as_def.as_def)) (statements (map statement_of c.in-Ok.used)) c.in_ok-as_def.ensures.ok c.in_ok-has_params.ensures.ok c.in-Ok.ensures.ok
    ∙ ap Ok (sym c.in_ok-def_of-in-Ok.ensures)

pub returns-clause-fault : goal.returns-clause-fault
returns-clause-fault c e h =
    let r : c.told_at.result ≡ stop.Fault e = cc h in
    let k = c.told_at.ensures e r in
    row_refused (defs_of c.args.earlier.now) c.args.role c.args.at c.args.name.now c.args.params.now (body_of c.args.suite.now) (place_in (names_of_def (Plain 0) c.args.params.now (body_of c.args.suite.now))) (statements (map statement_of c.in_ok-as_def.as_def)) k.1 c.in_ok-as_def.ensures.ok c.in_ok-has_params.ensures.ok (c.in-Err.ensures.fault k.1 (ap Err k.2)) ∙ ap Err (sym k.0)
