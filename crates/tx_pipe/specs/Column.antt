-- The columns of each operator, and the names that operators ask for.
use Rattle.std.specs.Prelude.{ℕ, ◌+◌, ◌-◌, Bool, not, if◌then◌else◌, List, [], ◌∷◌, ◌++◌, map, length, Option, None, option_map, unwrap_or, slice_get, find, filter_map, encode_utf8_all}
use Rattle.std.specs.List.{flat_map}
use Rattle.tx_tree.specs.Words.{same_text}
use Rattle.tx_name_set.specs.NameSet.{is_in, add}
use Rattle.tx_names.specs.Scope.{Text}
use Rattle.tx_names.specs.Faults.{first_some}
use Rattle.tx_names.specs.Function.{Function}
use Rattle.tx_names.specs.Parts.{columns_of}
use Rattle.tx_pipe.specs.declared.pipe.MapTo.{MapTo}
use Rattle.tx_pipe.specs.declared.pipe.MapTo.TheVariants as to
use Rattle.tx_pipe.specs.Pipe.{Name, Operation, csv, map_to, filter, with_column, map_column, select_columns, rename_column, join, left_join, unique, aggregate, to_csv, resolver_in, PipeNode}

-- the names of the columns in their order
abbrev pub Schema : Type 0
Schema = List Name

-- a name in a script means its UTF-8
abbrev pub bytes_of : Text → Name
bytes_of = encode_utf8_all

-- a list per operator has the entry of the first operator first
abbrev pub schema_at : List Schema → ℕ → Schema
schema_at schemas number = unwrap_or (slice_get schemas (number - 1)) []

-- ---- the columns of an operator

abbrev pub of_results : MapTo → Schema
of_results (to.Columns names) = map bytes_of names
of_results (to.Column name) = bytes_of name ∷ []

-- the first column of a name has another one
abbrev pub renamed : Name → Name → Schema → Schema
renamed old new [] = []
renamed old new (c ∷ cs) = if same_text old c then new ∷ cs else c ∷ renamed old new cs

-- the first column of a name is left out
abbrev pub without : Name → Schema → Schema
without key [] = []
without key (c ∷ cs) = if same_text key c then cs else c ∷ without key cs

-- where the source has these columns, the left input those, and earlier operators these
abbrev pub columns_by : {F : Type 0} → Schema → Schema → List Schema → Operation F ℕ → Schema
columns_by header left made (csv file names) = header
columns_by header left made (map_to f results) = of_results results
columns_by header left made (filter f) = left
columns_by header left made (with_column name f) = add left (bytes_of name)
columns_by header left made (map_column name f) = left
columns_by header left made (select_columns names) = map bytes_of names
columns_by header left made (rename_column old new) = renamed (bytes_of old) (bytes_of new) left
columns_by header left made (join right l r) = left ++ without (bytes_of r) (schema_at made right)
columns_by header left made (left_join right l r) = left ++ without (bytes_of r) (schema_at made right)
columns_by header left made unique = left
columns_by header left made (aggregate f init name) = bytes_of name ∷ []
columns_by header left made (to_csv file) = left

abbrev pub schema_of : {F : Type 0} → Schema → List Schema → PipeNode F → Schema
schema_of header made n = columns_by header (schema_at made n.input) made n.operation

-- operator by operator
abbrev pub schemas_behind : {F : Type 0} → List Schema → List Schema → List (PipeNode F) → List Schema
schemas_behind headers made [] = made
schemas_behind headers made (n ∷ ns) =
    schemas_behind headers (made ++ schema_of (schema_at headers (length made + 1)) made n ∷ []) ns

abbrev pub schemas : {F : Type 0} → List Schema → List (PipeNode F) → List Schema
schemas headers p = schemas_behind headers [] p

-- ---- the names that are asked for, each with the columns among which it is sought

abbrev pub Asked : Type 0
Asked = Text × Schema

abbrev pub asked_among : Schema → List Text → List Asked
asked_among schema names = map (λ c. (c, schema)) names

-- in the order of the tokens; the columns that a function reads are those of the row that it takes
abbrev pub asked_by : {N : Type 0} → List Schema → Schema → Operation (Function N) ℕ → List Asked
asked_by all left (map_to f results) = asked_among left (columns_of f)
asked_by all left (filter f) = asked_among left (columns_of f)
asked_by all left (with_column name f) = asked_among left (columns_of f)
asked_by all left (map_column name f) = (name, left) ∷ asked_among left (columns_of f)
asked_by all left (select_columns names) = asked_among left names
asked_by all left (rename_column old new) = (old, left) ∷ []
asked_by all left (join right l r) = (l, left) ∷ (r, schema_at all right) ∷ []
asked_by all left (left_join right l r) = (l, left) ∷ (r, schema_at all right) ∷ []
asked_by all left (aggregate f init name) = asked_among left (columns_of f)
asked_by all left _ = []

-- by an operator, and then by its handlers
abbrev pub asked : {N : Type 0} → List Schema → PipeNode (Function N) → List Asked
asked all n =
    asked_by all (schema_at all n.input) n.operation
    ++ flat_map (λ f. asked_among (schema_at all n.input) (columns_of f)) (filter_map resolver_in n.handlers)

abbrev pub is_absent : Asked → Bool
is_absent a = not (is_in a.1 (bytes_of a.0))

-- the first name that is absent, with the number of the operator; from a number on
abbrev pub first_absent_from : {N : Type 0} → ℕ → List Schema → List (PipeNode (Function N)) → Option (ℕ × Text)
first_absent_from number all [] = None
first_absent_from number all (n ∷ ns) =
    first_some (option_map (λ a. (number, a.0)) (find is_absent (asked all n))) (first_absent_from (number + 1) all ns)

abbrev pub first_absent : {N : Type 0} → List Schema → List (PipeNode (Function N)) → Option (ℕ × Text)
first_absent headers p = first_absent_from 1 (schemas headers p) p
