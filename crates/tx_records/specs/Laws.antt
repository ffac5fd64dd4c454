-- What holds of the definitions alone.
use Rattle.std.specs.Prelude.{◌≡◌, ℕ, true, false, List, [], Option, Some}
use Rattle.std.specs.Option.{option_and_then}
use Rattle.std.specs.Str.{is_utf8}
use Rattle.tx_records.specs.Cell.{is_null, print, read}

-- what a field is printed as once it was read
abbrev pub printed_back : List (List ℕ) → List ℕ → Option (List ℕ)
printed_back words field = option_and_then print (read words field)

-- a printed cell is the field that was read, for every field of UTF-8; a word that stands for None is printed as no bytes
pub record CellLaw : Type 0 where
  pub plain : (field : List ℕ) → is_utf8 field ≡ true → printed_back [] field ≡ Some field
  pub other : (words : List (List ℕ)) (field : List ℕ) → is_utf8 field ≡ true → is_null words field ≡ false → printed_back words field ≡ Some field
  pub null : (words : List (List ℕ)) (field : List ℕ) → is_utf8 field ≡ true → is_null words field ≡ true → printed_back words field ≡ Some []
