use Rattle.std.proofs.Common.{◌≡◌, ◌≤◌, ◌+◌, ◌++◌, List, drop, length, map, take}
use Rattle.std.specs.HashMap.{get}
use Rattle.tx_values.specs.declared.row.Row.{Row}
use Rattle.tx_values.specs.Keys.{same_key}
use Rattle.tx_joins.specs.Calls.Chains.{IsIndex, row_key}
use Rattle.tx_joins.proofs.index.add_rows.Given as goal

abbrev pub invariant-keys : goal.invariant-keys
invariant-keys l = record {
  within : length l.keys.items ≤ length l.rows;
  front : l.keys.items ≡ take (length l.keys.items) (map (row_key l.column) l.rows);
  room : length l.index.next.items ≡ length l.initial.index.next.items;
  held : (behind : List Row) → IsIndex l.column (get same_key l.initial.index.heads) l.initial.index.next.items (l.at + length l.rows) behind
      → IsIndex l.column (get same_key l.index.heads) l.index.next.items (l.at + length l.keys.items) (drop (length l.keys.items) l.rows ++ behind);
}

abbrev pub decreases-keys : goal.decreases-keys
decreases-keys l = length l.keys.items
