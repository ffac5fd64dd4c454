use Rattle.std.proofs.Common.{◌∙◌}
use Rattle.std.proofs.lemmas.Result.{IfOk-weaker, IfErr-weaker}
use Rattle.tx_pipe.specs.Pipe.{pipe_of}
use Rattle.tuplex_run.proofs.Refusals.{script_refused, failed_at_script, of_script, files_refused, failed_at_inputs}
use Rattle.tuplex_run.proofs.reading.prepare.Goals as goal

pub returns-in-Err-clause-refused : goal.returns-in-Err-clause-refused
returns-in-Err-clause-refused g c =
    script_refused (g.P.Place.state c.args.place.now) (g.P.Place.state c.read_pipe.new.place) c.args.script.now c.in-Err.refusal c.in-Err.ensures.refused

pub returns-in-Err-clause-named : goal.returns-in-Err-clause-named
returns-in-Err-clause-named g c = λ t n.
    failed_at_script (g.P.Place.state c.args.place.now) (g.P.Place.state c.read_pipe.new.place) c.args.script.now (c.read_pipe.ensures.named n)

pub returns-in-Ok-clause-ready : goal.returns-in-Ok-clause-ready
returns-in-Ok-clause-ready g c = λ t.
    let e = c.in-Ok.ensures in
    IfOk-weaker c.with_inputs.result _ _
    (λ r h. of_script (g.P.Place.state c.args.place.now) (g.P.Place.state c.read_pipe.new.place) (g.P.Place.state c.with_inputs.new.place)
    c.args.script.now (pipe_of c.in-Ok.pipe) e.only e.still e.pipe _ t h)
    (c.with_inputs.ensures.ready (e.only.telling.tells ∙ t))

pub returns-in-Ok-clause-refused : goal.returns-in-Ok-clause-refused
returns-in-Ok-clause-refused g c =
    let e = c.in-Ok.ensures in
    IfErr-weaker c.with_inputs.result _ _
    (files_refused (g.P.Place.state c.args.place.now) (g.P.Place.state c.read_pipe.new.place) (g.P.Place.state c.with_inputs.new.place)
    c.args.script.now (pipe_of c.in-Ok.pipe) e.only e.still e.pipe)
    c.with_inputs.ensures.refused

pub returns-in-Ok-clause-named : goal.returns-in-Ok-clause-named
returns-in-Ok-clause-named g c = λ t n.
    let e = c.in-Ok.ensures in
    failed_at_inputs (g.P.Place.state c.args.place.now) (g.P.Place.state c.read_pipe.new.place) (g.P.Place.state c.with_inputs.new.place)
    c.args.script.now (pipe_of c.in-Ok.pipe) e.only e.still e.pipe c.with_inputs.ensures.named t n
