use Rattle.std.proofs.Common.{◌≡◌, ◌≤◌, length, drop}
use Rattle.std.specs.HashMap.{get}
use Rattle.tx_values.specs.Keys.{same_key}
use Rattle.tx_joins.specs.Calls.Chains.{IsIndex}
use Rattle.tx_joins.proofs.index.index_of.Given as goal

abbrev pub invariant-batches : goal.invariant-batches
invariant-batches l = record {
  within : l.to ≤ l.len;
  room : length l.index.next.items ≡ l.len;
  held : IsIndex l.column (get same_key l.index.heads) l.index.next.items l.to (drop l.to l.all);
}

abbrev pub decreases-batches : goal.decreases-batches
decreases-batches l = l.to
