-- An index of rows by their keys in a column: the places of the rows of a key are a chain through the places of all rows.
use Rattle.std.specs.Prelude.{◌≡◌, ◌<◌, ◌≤◌, ◌+◌, ◌&&◌, ℕ, Bool, List, [], ◌∷◌, Option, Some, None, if◌then◌else◌, length, slice_get, unwrap_or}
use Rattle.std.specs.Option.{option_map, option_map_or}
use Rattle.tx_values.specs.declared.value.Value.{Value}
use Rattle.tx_values.specs.declared.key.Atom.{Atom}
use Rattle.tx_values.specs.declared.row.Row.{Row}
use Rattle.tx_values.specs.Keys.{key_of, same_key}
use Rattle.tx_values.specs.Valid.{hashable}
use Rattle.tx_joins.specs.Join.{cell_of, has_key, pair_of}

abbrev pub KeyAtoms : Type 0
KeyAtoms = List Atom

-- the row has this key in the column
abbrev pub has_this_key : ℕ → KeyAtoms → Row → Bool
has_this_key column key row = has_key column row && same_key (key_of (cell_of column row)) key

-- the places of the rows with this key, of rows that stand from a place on
abbrev pub places_of : ℕ → KeyAtoms → ℕ → List Row → List ℕ
places_of column key at [] = []
places_of column key at (row ∷ rows) =
    if has_this_key column key row then at ∷ places_of column key (at + 1) rows else places_of column key (at + 1) rows

-- what stands behind a place in a chain
abbrev pub behind : List (Option ℕ) → ℕ → Option ℕ
behind next place = unwrap_or (slice_get next place) None

-- a chain that begins at `start` goes through these places, which rise and are none before `from`
abbrev pub IsChain : List (Option ℕ) → ℕ → Option ℕ → List ℕ → Type 0
IsChain next from start [] = start ≡ None
IsChain next from start (place ∷ places) =
    (start ≡ Some place) × (from ≤ place) × (place < length next) × IsChain next (place + 1) (behind next place) places

-- for each key the chain from its head goes through the places of its rows, of rows that stand from a place on
abbrev pub IsIndex : ℕ → (KeyAtoms → Option ℕ) → List (Option ℕ) → ℕ → List Row → Type 0
IsIndex column head next at rows = (key : KeyAtoms) → IsChain next at (head key) (places_of column key at rows)

-- the key of a value, or none where it is not hashable
abbrev pub key_in : Value → Option KeyAtoms
key_in cell = if hashable cell then Some (key_of cell) else None

-- the key of a row in a column
abbrev pub row_key : ℕ → Row → Option KeyAtoms
row_key column row = key_in (cell_of column row)

-- what an index says of a row: nothing where it has no key in the column, and else where the chain of its key begins
abbrev pub head_of : ℕ → (KeyAtoms → Option ℕ) → Row → Option (Option ℕ)
head_of column head row = option_map head (row_key column row)

-- the pair with the right row at a place
abbrev pub pair_at : ℕ → Row → List Row → ℕ → List Row
pair_at right_key left rights place = option_map_or (λ right. pair_of right_key left right ∷ []) (slice_get rights place) []
