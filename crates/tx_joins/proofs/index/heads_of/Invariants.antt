use Rattle.std.proofs.Common.{◌≡◌, ◌≤◌, ◌-◌, map, take}
use Rattle.std.specs.HashMap.{get}
use Rattle.tx_values.specs.Keys.{same_key}
use Rattle.tx_joins.specs.Calls.Chains.{head_of}
use Rattle.tx_joins.proofs.index.heads_of.Given as goal

abbrev pub invariant-batches : goal.invariant-batches
invariant-batches l = record {
  within : l.from ≤ l.len;
  told : l.heads.items ≡ map (head_of l.column (get same_key l.index.heads)) (take l.from l.all);
}

abbrev pub decreases-batches : goal.decreases-batches
decreases-batches l = l.len - l.from
