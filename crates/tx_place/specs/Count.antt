-- Counts of faults: they never fall, and they stand at their last value.
use Rattle.std.specs.Prelude.{◌≡◌, ℕ, ◌<◌, ◌≤◌, Result, Ok, Err}
use Rattle.tx_base.specs.Count.{last_count, counted}
use Rattle.tx_place.specs.declared.place.CallError.{CallError}
use Rattle.tx_place.specs.declared.place.CallError.TheVariants.{Failed, NoMemory}

-- a count rose; one at its last value is taken as risen
abbrev pub Rose : ℕ → ℕ → Type 0
Rose old new = old < last_count → old < new

-- a count did not rise
abbrev pub Still : ℕ → ℕ → Type 0
Still old new = (old < last_count) × (new ≡ old)

-- a count after one more; at its last value it stays
abbrev pub next_count : ℕ → ℕ
next_count old = counted old 1

-- what a call that counts does to its count: it rises by one, and at its last value it stays
pub record Rises (old new : ℕ) : Type 0 where
  pub is : new ≡ next_count old
  pub kept : old ≤ new

-- a call raises its count of faults exactly where it answers `Failed`
abbrev pub CountsFault : {T : Type 0} → Result T CallError → ℕ → ℕ → Type 0
CountsFault (Ok x) old new = new ≡ old
CountsFault (Err Failed) old new = Rises old new
CountsFault (Err NoMemory) old new = new ≡ old

-- a call raises the count of refused memory exactly where it answers `NoMemory`
abbrev pub CountsRefusal : {T : Type 0} → Result T CallError → ℕ → ℕ → Type 0
CountsRefusal (Ok x) old new = new ≡ old
CountsRefusal (Err Failed) old new = new ≡ old
CountsRefusal (Err NoMemory) old new = Rises old new
