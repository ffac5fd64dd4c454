-- A join of two lists of rows: the list of all pairs whose keys are equal, by left row and then by right row.
use Rattle.std.specs.Prelude.{ℕ, ◌-◌, ◌++◌, Bool, true, not, List, [], ◌∷◌, filter, map, replicate, remove, slice_get, unwrap_or}
use Rattle.std.specs.List.{flat_map}
use Rattle.tx_values.specs.declared.value.Value.{Value}
use Rattle.tx_values.specs.declared.value.Value.TheVariants.{Nil}
use Rattle.tx_values.specs.declared.row.Mark.{Mark}
use Rattle.tx_values.specs.declared.row.Row.{Row}
use Rattle.tx_values.specs.Equality.{equal}
use Rattle.tx_values.specs.Valid.{hashable}

-- the cell of a column; a row has as many cells as its schema has columns
abbrev pub cell_of : ℕ → Row → Value
cell_of column row = unwrap_or (slice_get row.cells column) Nil

-- the row takes part in a join on this column: its cell there is hashable
abbrev pub has_key : ℕ → Row → Bool
has_key column row = hashable (cell_of column row)

-- the columns of the left row, then those of the right one without its key; the marks of both
abbrev pub pair_of : ℕ → Row → Row → Row
pair_of right_key left right = record { cells = left.cells ++ remove right.cells right_key; origin = left.origin ++ right.origin }

-- the left row beside each right row whose key equals its own, in their order
abbrev pub pairs_of : ℕ → ℕ → List Row → Row → List Row
pairs_of left_key right_key rights left =
    map (pair_of right_key left) (filter (λ right. equal (cell_of left_key left) (cell_of right_key right)) rights)

-- the left row with None for each column of the right side but its key
abbrev pub alone : ℕ → Row → Row
alone width left = record { cells = left.cells ++ replicate (width - 1) Nil; origin = left.origin }

-- a left row without a pair goes alone, where it is kept
abbrev pub or_alone : Bool → ℕ → Row → List Row → List Row
or_alone true width left [] = alone width left ∷ []
or_alone keep width left pairs = pairs

-- a join, and where `keep` is true a left join
abbrev pub joined_rows : Bool → ℕ → ℕ → ℕ → List Row → List Row → List Row
joined_rows keep width left_key right_key lefts rights =
    flat_map (λ left. or_alone keep width left (pairs_of left_key right_key (filter (has_key right_key) rights) left))
    (filter (has_key left_key) lefts)

-- where the rows without a key come from, in their order
abbrev pub keyless : ℕ → List Row → List (List Mark)
keyless column rows = map (λ row. row.origin) (filter (λ row. not (has_key column row)) rows)
