use Rattle.std.proofs.Common.{◌≡◌, ◌++◌, drop, filter, take}
use Rattle.tx_joins.specs.Unique.{first_rows, has_keys, keyless_rows, unique_rows}
use Rattle.tx_joins.specs.Calls.Seen.{AreSeen}
use Rattle.tx_joins.proofs.firsts.unique.Given as goal

abbrev pub invariant-loop-place : goal.invariant-loop-place
invariant-loop-place l = record {
  told : l.unhashable ++ keyless_rows (drop l.place l.all) ≡ keyless_rows l.all;
  ahead : AreSeen l.seen (filter has_keys (take l.place l.all));
  whole : l.kept ++ first_rows (filter has_keys (take l.place l.all)) (filter has_keys (drop l.place l.all)) ≡ unique_rows l.all;
}
