use Rattle.std.proofs.Common.{rules}
use Rattle.tx_methods.specs.Calls.{keys_of}
use Rattle.tx_methods.proofs.JoinWeights.{join_stops}
use Rattle.tx_methods.proofs.joins.join_keys.Goals as goal

pub returns-in_err-heavy-clause-raise : goal.returns-in_err-heavy-clause-raise
returns-in_err-heavy-clause-raise c =
    λ class is. join_stops c.args.sep.now c.len-each.result (keys_of c.args.pairs.now) class c.len-each.ensures (c.in_err-heavy.ensures.raise class (search rules))
