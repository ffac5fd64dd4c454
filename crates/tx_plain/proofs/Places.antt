-- The rows at places of a file and of a list.
use Rattle.std.proofs.Common.{◌≡◌, ℕ, zero, suc, ◌<◌, List, [], ◌∷◌, Some, get_or, length, map, slice_get, refl, sym, ap, ◌∙◌, arith}
use Rattle.std.proofs.lemmas.List.{length-map}
use Rattle.std.proofs.lemmas.Option.{slice_get_read}
use Rattle.tx_values.specs.declared.row.Row.{Row}
use Rattle.tx_records.specs.Records.{Raw, numbered_at, row_of, rows_of}

pub get_map : {X Y : Type 0} (f : X → Y) (xs : List X) (i : ℕ) (d : X) → i < length xs → slice_get (map f xs) i ≡ Some (f (get_or xs i d))
get_map f [] i d h = absurd (omega (arith, h))
get_map f (x ∷ xs) zero d h = refl
get_map f (x ∷ xs) (suc i) d h = get_map f xs i d (omega (arith, h))

-- of a file
pub row_read : (raw : Raw) (place : ℕ) (row : Row) → place < length raw.records → row ≡ row_of raw (numbered_at raw place) → slice_get (rows_of raw) place ≡ Some row
row_read raw place row h e = get_map (row_of raw) raw.records place (0, []) h ∙ ap (λ (r : Row). Some r) (sym e)

pub rows_length : (raw : Raw) → length (rows_of raw) ≡ length raw.records
rows_length raw = length-map raw.records (row_of raw)

-- of a list
pub row_made : (rows : List Row) (place : ℕ) (row : Row) → place < length rows → row ≡ get_or rows place row → slice_get rows place ≡ Some row
row_made rows place row h e = slice_get_read rows (length rows) place row refl h e

pub ruleset places = (row_read, rows_length, row_made)
