-- The first of some names that is absent.
use Rattle.std.specs.Prelude.{ℕ, not, List, [], ◌∷◌, Option, None, option_map, filter_map, find}
use Rattle.std.specs.List.{flat_map}
use Rattle.tx_name_set.specs.NameSet.{is_in}
use Rattle.tx_names.specs.Scope.{Text}
use Rattle.tx_names.specs.Faults.{first_some}
use Rattle.tx_names.specs.Function.{Function}
use Rattle.tx_names.specs.Parts.{columns_of}
use Rattle.tx_pipe.specs.Pipe.{Operation, map_to, filter, with_column, map_column, select_columns, rename_column, join, left_join, aggregate, Handling, resolve, ignore, resolver_in}
use Rattle.tx_pipe.specs.Column.{Schema, Asked, bytes_of, schema_at, asked_among, is_absent}

-- among columns
abbrev pub absent_among : Schema → List Text → Option Text
absent_among schema names = find (λ n. not (is_in schema (bytes_of n))) names

-- of names that are asked for
abbrev pub first_name : List Asked → Option Text
first_name as' = option_map (λ a. a.0) (find is_absent as')

-- what handlers ask for, where the input has these columns
abbrev pub handlers_asked : {N : Type 0} → Schema → List (Handling (Function N)) → List Asked
handlers_asked left hs = flat_map (λ f. asked_among left (columns_of f)) (filter_map resolver_in hs)

-- the first absent name of a handler, and of handlers
abbrev pub handler_absent : Schema → Handling (Function ℕ) → Option Text
handler_absent left (resolve class f) = absent_among left (columns_of f)
handler_absent left (ignore class) = None

abbrev pub handlers_absent : Schema → List (Handling (Function ℕ)) → Option Text
handlers_absent left [] = None
handlers_absent left (h ∷ hs) = first_some (handler_absent left h) (handlers_absent left hs)

-- of an operator
abbrev pub operation_absent : List Schema → Schema → Operation (Function ℕ) ℕ → Option Text
operation_absent all left (map_to f results) = absent_among left (columns_of f)
operation_absent all left (filter f) = absent_among left (columns_of f)
operation_absent all left (with_column name f) = absent_among left (columns_of f)
operation_absent all left (map_column name f) = first_some (absent_among left (name ∷ [])) (absent_among left (columns_of f))
operation_absent all left (select_columns names) = absent_among left names
operation_absent all left (rename_column old new) = absent_among left (old ∷ [])
operation_absent all left (join right l r) = first_some (absent_among left (l ∷ [])) (absent_among (schema_at all right) (r ∷ []))
operation_absent all left (left_join right l r) = first_some (absent_among left (l ∷ [])) (absent_among (schema_at all right) (r ∷ []))
operation_absent all left (aggregate f init name) = absent_among left (columns_of f)
operation_absent all left _ = None
