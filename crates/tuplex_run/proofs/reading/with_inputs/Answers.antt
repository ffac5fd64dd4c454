use Rattle.std.proofs.Common.{◌∙◌}
use Rattle.std.proofs.lemmas.Result.{IfOk-weaker, IfErr-weaker}
use Rattle.tx_pipe.specs.Pipe.{pipe_of}
use Rattle.tuplex_run.proofs.Refusals.{inputs_refused, sources_found, run_refused}
use Rattle.tuplex_run.proofs.reading.with_inputs.Goals as goal

pub returns-in-Err-clause-refused : goal.returns-in-Err-clause-refused
returns-in-Err-clause-refused g c =
    inputs_refused (pipe_of c.args.pipe) (g.P.Place.state c.args.place.now) (g.P.Place.state c.sources_of.new.place) c.in-Err.refusal c.in-Err.ensures.refused

pub returns-in-Ok-clause-ready : goal.returns-in-Ok-clause-ready
returns-in-Ok-clause-ready g c = λ t.
    IfOk-weaker c.with_columns.result _ _
    (λ r d. sources_found (g.P.Place.state c.args.place.now).held (pipe_of c.args.pipe) c.in-Ok.sources (c.in-Ok.ensures.sources t) ∙ d)
    c.with_columns.ensures.ready

pub returns-in-Ok-clause-refused : goal.returns-in-Ok-clause-refused
returns-in-Ok-clause-refused g c =
    let e = c.in-Ok.ensures in
    IfErr-weaker c.with_columns.result _ _
    (run_refused (pipe_of c.args.pipe) (g.P.Place.state c.args.place.now) (g.P.Place.state c.sources_of.new.place) c.in-Ok.sources e.still e.sources)
    c.with_columns.ensures.refused
