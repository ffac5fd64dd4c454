-- `unique`: of rows that are equal cell by cell the first.
use Rattle.std.specs.Prelude.{◌++◌, Bool, not, List, [], ◌∷◌, filter, map, if◌then◌else◌}
use Rattle.std.specs.List.{list_any}
use Rattle.tx_values.specs.declared.value.Value.{Value}
use Rattle.tx_values.specs.declared.value.Value.TheVariants.{Tuple}
use Rattle.tx_values.specs.declared.row.Mark.{Mark}
use Rattle.tx_values.specs.declared.row.Row.{Row}
use Rattle.tx_values.specs.Equality.{equal}
use Rattle.tx_values.specs.Valid.{hashable}

-- the cells of a row as one value
abbrev pub cells_of : Row → Value
cells_of row = Tuple row.cells

abbrev pub same_cells : Row → Row → Bool
same_cells a b = equal (cells_of a) (cells_of b)

-- the row takes part: all its cells are hashable
abbrev pub has_keys : Row → Bool
has_keys row = hashable (cells_of row)

-- of some rows, those that are equal to no row ahead of them; `ahead` are the rows in front of these
abbrev pub first_rows : List Row → List Row → List Row
first_rows ahead [] = []
first_rows ahead (row ∷ rows) =
    (if list_any (same_cells row) ahead then [] else row ∷ []) ++ first_rows (ahead ++ row ∷ []) rows

abbrev pub unique_rows : List Row → List Row
unique_rows rows = first_rows [] (filter has_keys rows)

-- where the rows with an unhashable cell come from, in their order
abbrev pub keyless_rows : List Row → List (List Mark)
keyless_rows rows = map (λ row. row.origin) (filter (λ row. not (has_keys row)) rows)
