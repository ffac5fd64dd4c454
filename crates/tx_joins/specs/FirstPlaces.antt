-- An index of first places: each key with the place of its first row, in the order of these places.
use Rattle.std.specs.Prelude.{◌++◌, ℕ, Bool, List, [], ◌∷◌, Option, if◌then◌else◌, length, position, slice_get, unwrap_or}
use Rattle.std.specs.List.{list_any}
use Rattle.std.specs.Map.{keys_of}
use Rattle.std.specs.Option.{option_map}
use Rattle.tx_values.specs.declared.key.Atom.{Atom}
use Rattle.tx_values.specs.Keys.{same_key}

-- a key, and the place of its first row
abbrev pub FirstPlace : Type 0
FirstPlace = List Atom × ℕ

-- a key is among them
abbrev pub was_seen : List FirstPlace → List Atom → Bool
was_seen places key = list_any (same_key key) (keys_of places)

-- after a key was seen at a place: a key that is there keeps its first place, a new one goes last
abbrev pub seen_at : List FirstPlace → List Atom → ℕ → List FirstPlace
seen_at places key place = if was_seen places key then places else places ++ (key, place) ∷ []

-- the number of a key among the keys, or how many there are where it is none of them
abbrev pub number_of_key : List FirstPlace → List Atom → ℕ
number_of_key places key = unwrap_or (position (same_key key) (keys_of places)) (length places)

-- the place of the first row of the key with this number
abbrev pub place_of_number : List FirstPlace → ℕ → Option ℕ
place_of_number places number = option_map (λ (p : FirstPlace). p.1) (slice_get places number)
