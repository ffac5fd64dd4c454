use Rattle.std.proofs.Common.{◌∙◌}
use Rattle.tuplex_run.specs.Outside.{outside}
use Rattle.tuplex_run.proofs.Complaints.{complained_from}
use Rattle.tuplex_run.proofs.Endings.{closed_ended, headline_of}
use Rattle.tuplex_run.proofs.Others.{others_are}
use Rattle.tuplex_run.proofs.command.run_words.Goals as goal

pub returns-clause-ended : goal.returns-clause-ended
returns-clause-ended g c =
    let e = c.carry_out-outcome.ensures in
    closed_ended c.args.words.now (outside (g.P.Place.state c.args.place.now) (g.C.Console.state c.args.console.now) c.args.steps.now c.args.meter.now)
    (g.P.Place.state c.carry_out-outcome.new.place) (g.C.Console.state c.carry_out-outcome.new.console) (g.C.Console.state c.close.new.console)
    c.carry_out-outcome.new.steps c.carry_out-outcome.new.meter e.console c.close.ensures.only c.carry_out-outcome.result c.close.result c.close.ensures.turns e.ended

pub returns-clause-complained : goal.returns-clause-complained
returns-clause-complained g c =
    let e = c.carry_out-outcome.ensures.console in
    λ t. complained_from _ (g.C.Console.state c.args.console.now) (g.C.Console.state c.carry_out-outcome.new.console) (g.C.Console.state c.close.new.console)
    e c.close.ensures.only t (c.close.ensures.complained (e.tells ∙ t))

pub returns-clause-headline : goal.returns-clause-headline
returns-clause-headline g c =
    headline_of c.verdicts_are_one.ensures c.args.words.now (outside (g.P.Place.state c.args.place.now) (g.C.Console.state c.args.console.now) c.args.steps.now c.args.meter.now)
    (outside (g.P.Place.state c.carry_out-outcome.new.place) (g.C.Console.state c.close.new.console) c.carry_out-outcome.new.steps c.carry_out-outcome.new.meter) c.close.result
    (returns-clause-ended g c) (returns-clause-complained g c)

pub returns-clause-others : goal.returns-clause-others
returns-clause-others g c = λ t.
    others_are c.verdicts_are_one.ensures c.args.words.now (outside (g.P.Place.state c.args.place.now) (g.C.Console.state c.args.console.now) c.args.steps.now c.args.meter.now)
    (outside (g.P.Place.state c.carry_out-outcome.new.place) (g.C.Console.state c.close.new.console) c.carry_out-outcome.new.steps c.carry_out-outcome.new.meter) c.close.result
    (returns-clause-ended g c) t
