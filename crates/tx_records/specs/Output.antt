-- The bytes of an output: the header, and then the rows.
use Rattle.std.specs.Prelude.{ℕ, Bool, true, List, [], ◌∷◌, Option, Some, None, if◌then◌else◌, map}
use Rattle.std.specs.List.{list_all}
use Rattle.csv.specs.Writing.{default_writer, row_text, with_flexible}
use Rattle.csv.specs.declared.writer.WriterBuilder.{WriterBuilder}
use Rattle.tx_values.specs.declared.value.Value.{Value}
use Rattle.tx_records.specs.Cell.{field_of, is_scalar}

-- csv's defaults, which are commas, a line feed, and quotes where necessary; rows may have any number of fields
abbrev pub csv_writer : WriterBuilder
csv_writer = with_flexible default_writer true

-- the line of a record; without columns there are no bytes
abbrev pub line_of : List (List ℕ) → List ℕ
line_of [] = []
line_of (field ∷ fields) = row_text csv_writer (field ∷ fields)

abbrev pub all_scalar : List Value → Bool
all_scalar cells = list_all is_scalar cells

abbrev pub fields_of : List Value → List (List ℕ)
fields_of cells = map field_of cells

-- the line of a row: a row with a container has none
abbrev pub row_line : List Value → Option (List ℕ)
row_line cells = if all_scalar cells then Some (line_of (fields_of cells)) else None
