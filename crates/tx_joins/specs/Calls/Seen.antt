-- The keys that were seen are those of some rows.
use Rattle.std.specs.Prelude.{◌≡◌, List, true}
use Rattle.std.specs.List.{list_all, list_any}
use Rattle.tx_values.specs.declared.key.Atom.{Atom}
use Rattle.tx_values.specs.declared.row.Row.{Row}
use Rattle.tx_values.specs.Keys.{key_of, same_key}
use Rattle.tx_joins.specs.FirstPlaces.{FirstPlace, was_seen}
use Rattle.tx_joins.specs.Unique.{cells_of, has_keys}

-- these rows have keys, and a key was seen exactly where one of them has it
pub record AreSeen (places : List FirstPlace) (rows : List Row) : Type 0 where
  pub keyed : list_all has_keys rows ≡ true
  pub seen : (key : List Atom) → was_seen places key ≡ list_any (λ row. same_key key (key_of (cells_of row))) rows
