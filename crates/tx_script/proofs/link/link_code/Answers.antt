use Rattle.std.proofs.Common.{◌≡◌, Ok, Err, IfOk, subst, sym}
use Rattle.tx_names.specs.Bind.{function_of}
use Rattle.tx_script.specs.Linked.{linked_code}
use Rattle.tx_script.specs.Calls.View.{code_of}
use Rattle.tx_script.specs.Calls.Behind.{ahead_of}
use Rattle.tx_script.proofs.link.link_code.Goals as goal

pub returns-in-Lambda-clause-ok : goal.returns-in-Lambda-clause-ok
returns-in-Lambda-clause-ok c =
    subst (λ d. IfOk c.link_written.result (λ f. linked_code (ahead_of c.args.ahead.now) c.args.role (code_of d) ≡ Ok (function_of f))) (sym c.in-Lambda.is) c.link_written.ensures.ok

pub returns-in-Lambda-clause-fault : goal.returns-in-Lambda-clause-fault
returns-in-Lambda-clause-fault c = λ f h.
    subst (λ d. linked_code (ahead_of c.args.ahead.now) c.args.role (code_of d) ≡ Err f) (sym c.in-Lambda.is) (c.link_written.ensures.fault f h)

pub returns-in-Def-clause-fault : goal.returns-in-Def-clause-fault
returns-in-Def-clause-fault c = λ f h.
    subst (λ d. linked_code (ahead_of c.args.ahead.now) c.args.role (code_of d) ≡ Err f) (sym c.in-Def.is) (c.link_named.ensures.fault f h)
