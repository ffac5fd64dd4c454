use Rattle.std.proofs.Common.{subst}
use Rattle.tuplex_run.specs.Calls.Refusals.{IsRead}
use Rattle.std.proofs.lemmas.Result.{IfOk-weaker, IfErr-weaker}
use Rattle.tx_pipe.specs.Pipe.{pipe_of}
use Rattle.tuplex_run.proofs.Inputs.{pipe_read, check_refused, script_unread, too_long}
use Rattle.tuplex_run.proofs.reading.read_pipe.Goals as goal

pub returns-in-Err-clause-refused : goal.returns-in-Err-clause-refused
returns-in-Err-clause-refused g c =
    script_unread c.args.script.now (g.P.Place.state c.args.place.now) (g.P.Place.state c.read_named.new.place) c.in-Err.refusal c.in-Err.ensures.refused

pub returns-in-Ok-None-clause-refused : goal.returns-in-Ok-None-clause-refused
returns-in-Ok-None-clause-refused g c =
    let e = c.in-Ok-None.ensures in (
      e.still,
      λ t. too_long (g.P.Place.state c.args.place.now).held c.args.script.now
          (subst (λ o. IsRead 262144 ((g.P.Place.state c.args.place.now).held c.args.script.now) o) c.in-Ok-None.field-0-is (e.bytes t)),
    )

pub returns-in-Ok-Some-clause-pipe : goal.returns-in-Ok-Some-clause-pipe
returns-in-Ok-Some-clause-pipe g c = λ t.
    IfOk-weaker c.checked.result _ _
    (λ pipe h. pipe_read (g.P.Place.state c.args.place.now).held c.args.script.now c.in-Ok-Some.bytes
    (subst (λ o. IsRead 262144 ((g.P.Place.state c.args.place.now).held c.args.script.now) o) c.in-Ok-Some.field-0-is (c.in-Ok-Some.ensures.bytes t)) (pipe_of pipe) h)
    c.checked.ensures.pipe

pub returns-in-Ok-Some-clause-refused : goal.returns-in-Ok-Some-clause-refused
returns-in-Ok-Some-clause-refused g c =
    let e = c.in-Ok-Some.ensures in
    IfErr-weaker c.checked.result _ _
    (check_refused c.args.script.now c.in-Ok-Some.bytes (g.P.Place.state c.args.place.now) (g.P.Place.state c.read_named.new.place) e.still
    (λ t. subst (λ o. IsRead 262144 ((g.P.Place.state c.args.place.now).held c.args.script.now) o) c.in-Ok-Some.field-0-is (e.bytes t)))
    c.checked.ensures.refused
