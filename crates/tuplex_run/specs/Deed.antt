-- All that an accepted command does: the files that it writes, and what it says.
use Rattle.std.specs.Prelude.{◌≡◌, ◌⊎◌, ℕ, Bool, List, [], ◌∷◌}
use Rattle.tx_place.specs.Place.{Held, with_file}
use Rattle.tuplex_run.specs.Partly.{IsPartly}

pub record Deed : Type 0 where
  -- the files that it writes, each with all its bytes, in this order; none for a command that only answers
  pub writes : List (List ℕ × List ℕ)
  -- the line that it says, and whether it says how far the counts rose in a second one
  pub line : List ℕ
  pub stats : Bool
  -- the numbers of its answer
  pub rows : ℕ
  pub reported : ℕ
  -- how many evaluations of functions it makes before it writes
  pub evaluations : ℕ

abbrev pub names_of : List (List ℕ × List ℕ) → List (List ℕ)
names_of [] = []
names_of (write ∷ writes) = write.0 ∷ names_of writes

-- the files once all was written
abbrev pub written : List (List ℕ × List ℕ) → Held → Held
written [] held = held
written (write ∷ writes) held = written writes (with_file held write.0 write.1)

-- the files once some prefix of it was written: some files whole, the next one in part, the others as before
abbrev pub IsWrittenPartly : List (List ℕ × List ℕ) → Held → Held → Type 0
IsWrittenPartly [] old new = new ≡ old
IsWrittenPartly (write ∷ writes) old new =
    IsPartly old write.0 write.1 new ⊎ IsWrittenPartly writes (with_file old write.0 write.1) new
