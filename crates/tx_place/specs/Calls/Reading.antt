-- What a reader has read so far, of a file and of a stream.
use Rattle.std.specs.Prelude.{◌≡◌, ℕ, ◌≤◌, List, [], true, Option, Some, None, IfSome, length, take}
use Rattle.std.specs.Io.KnownBytes.{Consumes}
use Rattle.tx_place.specs.Place.{PlaceState, KeepsTelling}

-- the bytes are the first ones of the file
abbrev pub IsFrontOf : Option (List ℕ) → List ℕ → Type 0
IsFrontOf None bytes = bytes ≡ []
IsFrontOf (Some all) bytes = (bytes ≡ take (length bytes) all) × (length bytes ≤ length all)

-- no call failed in between, and nothing was written
pub record IsAsBefore (old new : PlaceState) : Type 0 where
  pub telling : KeepsTelling old new
  pub reads : new.read_faults ≡ old.read_faults
  pub writes : new.write_faults ≡ old.write_faults
  pub open_file : new.open_file ≡ old.open_file
  pub named : old.names_faults ≡ true → new.failed ≡ old.failed
  pub held : old.tells ≡ true → new.held ≡ old.held

-- a stream was moved to a place, and there had these bytes next: `position` and `remaining` are what it tells of itself
abbrev pub GaveFrom : {F : Type 0} → (F → Option ℕ) → (F → Option (List ℕ)) → ℕ → F → F → List ℕ → Type 0
GaveFrom {F} position remaining at old new bytes =
    (moved : F) × (IfSome (position old) (λ _. position moved ≡ Some at)) × Consumes (remaining moved) (remaining new) bytes
