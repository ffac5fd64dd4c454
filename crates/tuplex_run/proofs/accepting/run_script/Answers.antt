use Rattle.std.proofs.Common.{◌≡◌, true, sym, subst, inr}
use Rattle.std.proofs.lemmas.Result.{IfOk-weaker, IfErr-weaker}
use Rattle.tx_words.specs.declared.command.Command.TheVariants.{Run}
use Rattle.tuplex_run.specs.Commands.{run_deed}
use Rattle.tuplex_run.specs.Due.{on_script, on_command}
use Rattle.tuplex_run.specs.Calls.Accept.{as_ready}
use Rattle.tuplex_run.proofs.VerdictLemmas.{given_then}
use Rattle.tuplex_run.proofs.Refusals.{no_memory_steps}
use Rattle.tuplex_run.proofs.accepting.run_script.Goals as goal

pub returns-in-Ok-clause-accepted : goal.returns-in-Ok-clause-accepted
returns-in-Ok-clause-accepted g c = λ sample order t.
    let held = (g.P.Place.state c.args.place.now).held in
    let script = c.args.script.now in
    IfOk-weaker c.work.result _ _
    (λ run d. subst (λ deed. on_command held (Run script sample order c.args.stats) (inr deed)) (sym d)
    (given_then (on_script script held) (λ r. inr (run_deed c.args.stats r)) (as_ready c.in-Ok.prepared) (c.in-Ok.ensures.ready t)))
    c.work.ensures.deed

pub returns-in-Ok-clause-steps : goal.returns-in-Ok-clause-steps
returns-in-Ok-clause-steps g c = λ sample order.
    let old = g.P.Place.state c.args.place.now in
    let script = c.args.script.now in
    IfErr-weaker c.work.result _ _
    (no_memory_steps (old.tells ≡ true) (λ deed. on_command old.held (Run script sample order c.args.stats) (inr deed)) c.args.steps.now c.work.new.steps
    (run_deed c.args.stats (as_ready c.in-Ok.prepared))
    (λ t. given_then (on_script script old.held) (λ r. inr (run_deed c.args.stats r)) (as_ready c.in-Ok.prepared) (c.in-Ok.ensures.ready t))
    c.work.ensures.most)
    c.work.ensures.memory
