use Rattle.std.proofs.Common.{◌≡◌, ◌++◌, drop, map}
use Rattle.tx_joins.specs.Calls.Chains.{row_key}
use Rattle.tx_joins.proofs.index.row_keys.Given as goal

abbrev pub invariant-loop-row : goal.invariant-loop-row
invariant-loop-row l = l.keys.items ++ map (row_key l.column) (drop l.row-index l.rows) ≡ map (row_key l.column) l.rows
