use Rattle.std.proofs.Common.{arith}
use Rattle.tx_pipe.specs.Pipe.{pipe_of}
use Rattle.tx_plain.proofs.Advancing.{start_worked, worked_most}
use Rattle.tx_plain.proofs.Counting.{tracks_none}
use Rattle.tx_plain.proofs.plain.work_through.Goals as goal

pub operators-init : goal.operators-init
operators-init g c = (
  omega arith,
  start_worked c.args.sources.now c.args.s.now (pipe_of c.args.nodes.now) c.args.steps.now c.new.result.items c.new-2.result c.new.ensures.items c.new-2.ensures,
  tracks_none c.args.steps.now c.args.meter.now,
)

pub returns-in_err-at-clause-most : goal.returns-in_err-at-clause-most
returns-in_err-at-clause-most g c = c.step.ensures.most c.args.steps.now c.operators.invariant.1

pub returns-clause-most : goal.returns-clause-most
returns-clause-most g c =
    worked_most c.args.sources.now c.args.s.now (pipe_of c.args.nodes.now) c.operators.at c.args.steps.now c.operators.steps c.operators.work.stored.items c.operators.work.entries c.operators.invariant.1
