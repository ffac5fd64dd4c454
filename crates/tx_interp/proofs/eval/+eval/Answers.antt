use Rattle.std.proofs.Common.{rules, nat_eq, map}
use Rattle.tx_names.specs.View.{statements, statement_of, target_of}
use Rattle.tx_meaning.specs.Maps.{row_of}
use Rattle.tx_meaning.specs.Meaning.{runs_all}
use Rattle.tx_interp.specs.Frames.{map_of}
use Rattle.tx_interp.proofs.Slots.{turn_raises}
use Rattle.tx_interp.proofs.eval.+eval.Goals as goal

pub run_turn-returns-in_err-end-clause-raise : goal.run_turn-returns-in_err-end-clause-raise
run_turn-returns-in_err-end-clause-raise t c = λ class e. turn_raises (runs_all nat_eq (statements (map statement_of c.args.body.now)) (row_of c.args.names.now c.args.cells.now)) (target_of c.args.target.now) c.args.item.now (map_of c.args.frame.now.items) (map_of c.take_copy.new.frame.items) class c.in_ok-take_copy.ensures.ok (c.in_err-end.ensures.raise class (search rules))
