-- How the good records lie in one list of fields.
use Rattle.std.specs.Prelude.{◌≡◌, ℕ, ◌*◌, true, List, [], ◌∷◌, length, take, drop}
use Rattle.std.specs.List.{list_all}
use Rattle.std.specs.Str.{is_utf8}
use Rattle.tx_records.specs.Records.{Numbered}

-- records of one number of fields, with their numbers
unfoldable pub rows_from : ℕ → List ℕ → List (List ℕ) → List Numbered
rows_from width [] fields = []
rows_from width (number ∷ numbers) fields = (number, take width fields) ∷ rows_from width numbers (drop width fields)

-- the fields are those of so many good records: a record's width for each, all of them UTF-8
pub record HoldsRecords (width : ℕ) (numbers : List ℕ) (fields : List (List ℕ)) : Type 0 where
  pub count : length fields ≡ length numbers * width
  pub text : list_all is_utf8 fields ≡ true
