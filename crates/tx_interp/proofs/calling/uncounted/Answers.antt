use Rattle.std.proofs.Common.{rules}
use Rattle.tx_names.specs.Bind.{function_of}
use Rattle.tx_interp.specs.Arguments.{row_given, values_given}
use Rattle.tx_interp.proofs.Given.{call_raises}
use Rattle.tx_interp.proofs.calling.uncounted.Goals as goal

pub returns-clause-raise : goal.returns-clause-raise
returns-clause-raise c = λ class e. call_raises (function_of c.args.f.now) _ _ (row_given c.args.first.now c.args.second.now) _ (values_given c.args.first.now c.args.second.now) _ class c.body.ensures c.cells_given.ensures (search rules) c.in_ok-frame.ensures.value (c.run_body.ensures.raise class e)
