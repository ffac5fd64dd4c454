use Rattle.std.proofs.Common.{inl, inr}
use Rattle.tuplex_run.proofs.Endings.{refused_ended, finished_ended, err_same}
use Rattle.tuplex_run.proofs.command.carry_out.Goals as goal

pub returns-in-Err-clause-ended : goal.returns-in-Err-clause-ended
returns-in-Err-clause-ended g c =
    let e = c.in-Err.ensures in
    refused_ended c.args.words.now (g.P.Place.state c.args.place.now) (g.P.Place.state c.accept.new.place) (g.C.Console.state c.args.console.now)
    c.args.steps.now c.accept.new.steps c.args.meter.now c.accept.new.meter e.only c.in-Err.refusal e.refused
    (λ n. elim (e.unread n) [ inl p ↦ inl (err_same _ _ p) | inr p ↦ inr (err_same _ _ p) ]) e.named e.steps e.counts

pub returns-in-Ok-clause-ended : goal.returns-in-Ok-clause-ended
returns-in-Ok-clause-ended g c =
    let e = c.in-Ok.ensures in
    let f = c.finish.ensures in
    finished_ended c.args.words.now (g.P.Place.state c.args.place.now) (g.P.Place.state c.accept.new.place) (g.P.Place.state c.finish.new.place)
    (g.C.Console.state c.args.console.now) (g.C.Console.state c.finish.new.console) c.in-Ok.run' c.args.steps.now c.accept.new.steps c.args.meter.now c.accept.new.meter
    e.only e.still f.telling f.reads e.accepted e.counts c.requires.interp c.requires.typed c.finish.result f.cause e.asked f.stands f.said f.named
