use Rattle.std.proofs.Common.{sym, subst, inr}
use Rattle.std.proofs.lemmas.Result.{IfOk-weaker}
use Rattle.tx_words.specs.declared.command.Command.TheVariants.{Check}
use Rattle.tuplex_run.specs.Commands.{check_deed}
use Rattle.tuplex_run.specs.Due.{on_script, on_command}
use Rattle.tuplex_run.specs.Calls.Accept.{as_ready}
use Rattle.tuplex_run.proofs.VerdictLemmas.{given_then}
use Rattle.tuplex_run.proofs.accepting.check_script.Goals as goal

pub returns-clause-accepted : goal.returns-clause-accepted
returns-clause-accepted g c = λ t.
    let held = (g.P.Place.state c.args.place.now).held in
    let script = c.args.script.now in
    IfOk-weaker c.checked.result _ _
    (λ run d. subst (λ deed. on_command held (Check script) (inr deed)) (sym d)
    (given_then (on_script script held) (λ r. inr check_deed) (as_ready c.in-Ok.field-0) (c.in-Ok.ensures.ready t)))
    c.checked.ensures.deed
