-- Lists of files, as the calls on a list change them.
use Rattle.std.specs.Prelude.{◌≡◌, ℕ, zero, suc, true, false, List, [], ◌∷◌, ◌++◌, if◌then◌else◌}
use Rattle.std.specs.Str.{bytes_eq}

-- the files with these bytes under this name: in the place of the first of that name, or behind the others
abbrev pub put : List (List ℕ × List ℕ) → List ℕ → List ℕ → List (List ℕ × List ℕ)
put [] name bytes = (name, bytes) ∷ []
put (file ∷ files) name bytes = if bytes_eq name file.0 then (file.0, bytes) ∷ files else file ∷ put files name bytes

-- the files with these bytes at the end of the first of that name
abbrev pub added : List (List ℕ × List ℕ) → List ℕ → List ℕ → List (List ℕ × List ℕ)
added [] name bytes = []
added (file ∷ files) name bytes = if bytes_eq name file.0 then (file.0, file.1 ++ bytes) ∷ files else file ∷ added files name bytes

-- the first file of that name stands there
abbrev pub IsAt : List (List ℕ × List ℕ) → List ℕ → ℕ → Type 0
IsAt [] name i = ⊥
IsAt (file ∷ files) name zero = bytes_eq name file.0 ≡ true
IsAt (file ∷ files) name (suc i) = (bytes_eq name file.0 ≡ false) × IsAt files name i

-- the files with these bytes in one place
abbrev pub replaced : List (List ℕ × List ℕ) → ℕ → List ℕ → List (List ℕ × List ℕ)
replaced [] i bytes = []
replaced (file ∷ files) zero bytes = (file.0, bytes) ∷ files
replaced (file ∷ files) (suc i) bytes = file ∷ replaced files i bytes

-- the files with these bytes behind those in one place
abbrev pub extended : List (List ℕ × List ℕ) → ℕ → List ℕ → List (List ℕ × List ℕ)
extended [] i bytes = []
extended (file ∷ files) zero bytes = (file.0, file.1 ++ bytes) ∷ files
extended (file ∷ files) (suc i) bytes = file ∷ extended files i bytes
