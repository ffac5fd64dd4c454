-- The values of a function's names, and the cells of a row (Python Language Reference, "Naming and binding", "Assignment
-- statements"). `N` is what names are, and `same` tells whether two are one.
use Rattle.std.specs.Prelude.{ℕ, Bool, ◌==◌, if◌then◌else◌, encode_utf8_all, List, [], ◌∷◌, length, Option, Some, None, Result, Ok, Err}
use Rattle.tx_base.specs.declared.class.Class.TheVariants.{KeyError, UnboundLocalError, ValueError}
use Rattle.tx_tree.specs.Words.{same_text}
use Rattle.tx_values.specs.declared.value.Value.{Value}
use Rattle.tx_values.specs.Answer.{Answer, ◌>>=◌}
use Rattle.tx_methods.specs.Walks.{iterate_of}
use Rattle.tx_names.specs.Function.{Target, one, several}

-- ---- rows

-- the cell of each column, by the characters of its name
abbrev pub Row : Type 0
Row = List ℕ → Option Value

-- of columns with these names, each in UTF-8, and of their cells: the cell of the first column of a name
abbrev pub row_of : List (List ℕ) → List Value → Row
row_of (n ∷ names) (x ∷ cells) column = if same_text n (encode_utf8_all column) then Some x else row_of names cells column
row_of _ _ column = None

-- a def that is called is given a row without columns
abbrev pub no_row : Row
no_row = row_of [] []

-- a row is read as a dictionary is
abbrev pub read_cell : Option Value → Answer Value
read_cell None = Err KeyError
read_cell (Some x) = Ok x

-- ---- local names

-- a name without a value is read; within a comprehension too, where Python says NameError
abbrev pub read_local : Option Value → Answer Value
read_local None = Err UnboundLocalError
read_local (Some x) = Ok x

module _ {N : Type 0} (same : N → N → Bool) where
  -- the value of each name, if it has one
  abbrev pub Map : Type 0
  Map = N → Option Value

  -- no name has a value
  unfoldable pub no_locals : Map
  no_locals n = None

  -- a name is given a value
  unfoldable pub put : N → Value → Map → Map
  put n x m other = if same n other then Some x else m other

  -- names are given values, from the left
  abbrev pub put_all : List N → List Value → Map → Map
  put_all [] xs m = m
  put_all (n ∷ ns) [] m = m
  put_all (n ∷ ns) (x ∷ xs) m = put_all ns xs (put n x m)

  -- names are given the items of a list, which are as many
  abbrev pub put_items : List N → List Value → Map → Answer Map
  put_items ns items m = if length items == length ns then Ok (put_all ns items m) else Err ValueError

  -- one name takes the value; names between commas take its items ("Assignment statements")
  unfoldable pub take : Target N → Value → Map → Answer Map
  take (one n) x m = Ok (put n x m)
  take (several ns) x m = do
    items ← iterate_of x
    put_items ns items m
