use Rattle.tx_pipe.specs.Pipe.{pipe_of}
use Rattle.tuplex_run.proofs.Refusals.{columns_refused, columns_found}
use Rattle.tuplex_run.proofs.reading.with_columns.Goals as goal

pub returns-in-Err-clause-refused : goal.returns-in-Err-clause-refused
returns-in-Err-clause-refused c = columns_refused c.args.sources (pipe_of c.args.pipe) c.in-Err.refusal c.in-Err.ensures.refused

pub returns-in-Ok-clause-ready : goal.returns-in-Ok-clause-ready
returns-in-Ok-clause-ready c = columns_found c.args.sources (pipe_of c.args.pipe) c.in-Ok.columns c.in-Ok.ensures.columns
