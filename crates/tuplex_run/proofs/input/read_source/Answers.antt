use Rattle.std.proofs.Common.{◌≤◌, ◌∙◌, length, IfSome, ap, sym, subst, inr}
use Rattle.tuplex_run.specs.Calls.Refusals.{IsRead}
use Rattle.std.proofs.lemmas.Result.{IfOk-weaker, IfErr-weaker}
use Rattle.tuplex_run.proofs.Inputs.{source_read, source_unread, source_no_memory, source_large}
use Rattle.tuplex_run.proofs.input.read_source.Goals as goal

pub returns-in-Err-clause-refused : goal.returns-in-Err-clause-refused
returns-in-Err-clause-refused g c =
    source_unread c.args.number c.args.file.now c.args.naming.now.names (g.P.Place.state c.args.place.now) (g.P.Place.state c.read_named.new.place) c.in-Err.refusal c.in-Err.ensures.refused

pub returns-in-Ok-None-clause-refused : goal.returns-in-Ok-None-clause-refused
returns-in-Ok-None-clause-refused g c =
    let e = c.in-Ok-None.ensures in
    source_large c.args.number c.args.file.now c.args.naming.now.names (g.P.Place.state c.args.place.now) (g.P.Place.state c.read_named.new.place) e.still
    (λ t. subst (λ o. IsRead 67108864 ((g.P.Place.state c.args.place.now).held c.args.file.now) o) c.in-Ok-None.field-0-is (e.bytes t))
    c.too_large.result c.too_large.ensures

pub returns-in-Ok-Some-clause-source : goal.returns-in-Ok-Some-clause-source
returns-in-Ok-Some-clause-source g c = λ t.
    let e = c.in-Ok-Some.ensures in
    IfOk-weaker c.source_of.result _ _
    (λ s h. source_read (g.P.Place.state c.args.place.now).held c.args.number c.args.file.now c.args.naming.now.names c.in-Ok-Some.bytes
    (subst (λ o. IsRead 67108864 ((g.P.Place.state c.args.place.now).held c.args.file.now) o) c.in-Ok-Some.field-0-is (e.bytes t))
    (subst (λ o. IfSome o (λ b. length b ≤ 67108864)) c.in-Ok-Some.field-0-is e.within) ∙ ap inr (sym h))
    c.source_of.ensures.source

pub returns-in-Ok-Some-clause-refused : goal.returns-in-Ok-Some-clause-refused
returns-in-Ok-Some-clause-refused g c =
    IfErr-weaker c.source_of.result _ _
    (source_no_memory c.args.number c.args.file.now c.args.naming.now.names (g.P.Place.state c.args.place.now) (g.P.Place.state c.read_named.new.place))
    c.source_of.ensures.memory
