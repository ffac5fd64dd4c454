use Rattle.std.proofs.Common.{◌∙◌}
use Rattle.std.proofs.lemmas.Result.{IfErr-weaker, on_ok_weaker}
use Rattle.tuplex_run.proofs.Inputs.{split, at_first, at_rest, failed_first, failed_rest, all_added}
use Rattle.tuplex_run.proofs.input.+read_inputs.Goals as goal

pub returns-in-Err-clause-refused : goal.returns-in-Err-clause-refused
returns-in-Err-clause-refused g t c =
    let e = split c.args.nodes.now c.first-item.result c.in-len1-up.len_at_least c.first-item.is in
    at_first c.args.nodes.now c.first-item.result _ e c.args.number (g.P.Place.state c.args.place.now) (g.P.Place.state c.add_input.new.place) c.in-Err.refusal c.in-Err.ensures.refused

pub returns-in-Err-clause-named : goal.returns-in-Err-clause-named
returns-in-Err-clause-named g t c = λ h n.
    let e = split c.args.nodes.now c.first-item.result c.in-len1-up.len_at_least c.first-item.is in
    failed_first c.args.nodes.now c.first-item.result _ e (g.P.Place.state c.args.place.now) (g.P.Place.state c.add_input.new.place) (c.add_input.ensures.named n)

pub returns-in-Ok-clause-refused : goal.returns-in-Ok-clause-refused
returns-in-Ok-clause-refused g t c =
    let e = split c.args.nodes.now c.first-item.result c.in-len1-up.len_at_least c.first-item.is in
    let a = c.in-Ok.ensures in
    IfErr-weaker c.read_inputs.result _ _
    (at_rest c.args.nodes.now c.first-item.result _ e c.args.number c.args.sources.now c.add_input.new.sources (g.P.Place.state c.args.place.now) (g.P.Place.state c.add_input.new.place) (g.P.Place.state c.read_inputs.new.place) a.only a.still a.source)
    c.read_inputs.ensures.refused

pub returns-in-Ok-clause-named : goal.returns-in-Ok-clause-named
returns-in-Ok-clause-named g t c = λ h n.
    let e = split c.args.nodes.now c.first-item.result c.in-len1-up.len_at_least c.first-item.is in
    let a = c.in-Ok.ensures in
    failed_rest c.args.nodes.now c.first-item.result _ e c.args.number c.args.sources.now c.add_input.new.sources (g.P.Place.state c.args.place.now) (g.P.Place.state c.add_input.new.place) (g.P.Place.state c.read_inputs.new.place) a.only a.still a.source
    c.read_inputs.ensures.named h n

pub returns-in-Ok-clause-sources : goal.returns-in-Ok-clause-sources
returns-in-Ok-clause-sources g t c = λ h.
    let e = split c.args.nodes.now c.first-item.result c.in-len1-up.len_at_least c.first-item.is in
    let a = c.in-Ok.ensures in
    on_ok_weaker c.read_inputs.result
    (all_added c.args.nodes.now c.first-item.result _ e c.args.number c.args.sources.now c.add_input.new.sources c.read_inputs.new.sources (g.P.Place.state c.args.place.now) (g.P.Place.state c.add_input.new.place) a.only h (a.source h))
    (c.read_inputs.ensures.sources (a.only.telling.tells ∙ h))
