-- A file that may hold only a prefix of its bytes.
use Rattle.std.specs.Prelude.{◌≡◌, ◌⊎◌, ℕ, List, take}
use Rattle.tx_place.specs.Place.{Held, with_file}

-- the file is as before, or holds a prefix of the bytes
abbrev pub IsPartly : Held → List ℕ → List ℕ → Held → Type 0
IsPartly old name bytes new = (new ≡ old) ⊎ ((k : ℕ) × (new ≡ with_file old name (take k bytes)))
