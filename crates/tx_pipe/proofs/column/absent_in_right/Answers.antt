use Rattle.std.proofs.Common.{[], ◌∷◌}
use Rattle.tx_pipe.proofs.Absent.{absent-among}
use Rattle.tx_pipe.proofs.column.absent_in_right.Goals as goal

pub returns : goal.returns
returns c = absent-among c.args.right.now _ (c.args.key.now ∷ []) _ c.in_ok-columns.ensures c.absent_one.ensures
