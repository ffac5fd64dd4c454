use Rattle.std.proofs.Common.{◌≡◌, ◌++◌, drop, map}
use Rattle.std.specs.HashMap.{get}
use Rattle.std.specs.Option.{option_map}
use Rattle.tx_values.specs.Keys.{same_key}
use Rattle.tx_joins.proofs.index.add_heads.Given as goal

abbrev pub invariant-loop-key : goal.invariant-loop-key
invariant-loop-key l =
    l.heads.items ++ map (option_map (get same_key l.index.heads)) (drop l.key-index l.key-items)
    ≡ l.initial.heads.items ++ map (option_map (get same_key l.index.heads)) l.key-items
