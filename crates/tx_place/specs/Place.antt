-- What a place holds, and all that each of its calls does to that.
use Rattle.std.specs.Prelude.{◌≡◌, ◌⊎◌, IfOk, OnOk, OnErr, ℕ, ◌-◌, ◌<◌, ◌≤◌, ◌++◌, List, [], Bool, true, if◌then◌else◌, Option, Some, None, option_map, Result, Ok, Err, length, take, drop}
use Rattle.std.specs.Str.{bytes_eq}
use Rattle.tx_place.specs.Count.{CountsFault}
use Rattle.tx_place.specs.declared.place.CallError.{CallError}
use Rattle.tx_place.specs.declared.place.CallError.TheVariants.{Failed, NoMemory}

-- the bytes of each file by its name, which is a list of code points
abbrev pub Held : Type 0
Held = List ℕ → Option (List ℕ)

-- all that clauses say of a place
pub record PlaceState : Type 0 where
  -- whether it tells what it holds, and whether it tells the name of its last call that failed
  pub tells : Bool
  pub names_faults : Bool
  pub held : Held
  pub failed : Option (List ℕ)
  -- how many calls of `read_at` failed, and how many of `create` and `append`
  pub read_faults : ℕ
  pub write_faults : ℕ
  -- the name of the open file
  pub open_file : Option (List ℕ)

-- the same files, with these bytes under this name (`bytes_eq` compares any two lists of numbers, here code points)
abbrev pub with_file : Held → List ℕ → List ℕ → Held
with_file held name bytes other = if bytes_eq other name then Some bytes else held other

-- the same files, with these bytes at the end of this one
abbrev pub with_added : Held → List ℕ → List ℕ → Held
with_added held name bytes other =
    if bytes_eq other name then option_map (λ old. old ++ bytes) (held other) else held other

-- a call that failed leaves its name; every other call keeps the name that is there
abbrev pub NamesFault : {T : Type 0} → Result T CallError → List ℕ → Option (List ℕ) → Option (List ℕ) → Type 0
NamesFault (Ok x) name old new = new ≡ old
NamesFault (Err Failed) name old new = new ≡ Some name
NamesFault (Err NoMemory) name old new = new ≡ old

-- no call changes what the place tells
pub record KeepsTelling (old new : PlaceState) : Type 0 where
  pub tells : new.tells ≡ old.tells
  pub names_faults : new.names_faults ≡ old.names_faults

-- a read took n bytes of a file from a place on: none only into an empty slice, or at or past the end
pub record TookBytes (bytes : List ℕ) (at n : ℕ) (into : List ℕ) : Type 0 where
  pub some : 0 < length into → at < length bytes → 0 < n
  pub no_more : n ≤ length bytes - at
  pub are : take n into ≡ take n (drop at bytes)

-- a read that succeeds is of a file that is there
abbrev pub Took : Option (List ℕ) → ℕ → ℕ → List ℕ → Type 0
Took None at n into = ⊥
Took (Some bytes) at n into = TookBytes bytes at n into

-- all that one `read_at` does: it changes nothing held, and after a refusal `into` may hold anything
pub record ReadsAt (result : Result ℕ CallError) (name : List ℕ) (at : ℕ) (before after : List ℕ) (old new : PlaceState) : Type 0 where
  pub telling : KeepsTelling old new
  pub reads : CountsFault result old.read_faults new.read_faults
  pub writes : new.write_faults ≡ old.write_faults
  pub named : old.names_faults ≡ true → NamesFault result name old.failed new.failed
  pub open_file : new.open_file ≡ old.open_file
  pub held : old.tells ≡ true → new.held ≡ old.held
  pub within : IfOk result (λ n. n ≤ length before)
  pub took : old.tells ≡ true → IfOk result (λ n. Took (old.held name) at n after)

-- all that one `create` does: after a refusal the file is as before or empty, and no file is open
pub record Creates (result : Result (Unit {0}) CallError) (name : List ℕ) (old new : PlaceState) : Type 0 where
  pub telling : KeepsTelling old new
  pub reads : new.read_faults ≡ old.read_faults
  pub writes : CountsFault result old.write_faults new.write_faults
  pub named : old.names_faults ≡ true → NamesFault result name old.failed new.failed
  pub opens : OnOk result (new.open_file ≡ Some name)
  pub closed : OnErr result (new.open_file ≡ None)
  pub held : old.tells ≡ true → OnOk result (new.held ≡ with_file old.held name [])
  pub refused : old.tells ≡ true → OnErr result ((new.held ≡ old.held) ⊎ (new.held ≡ with_file old.held name []))

-- all that one `append` does: after a refusal a prefix of the bytes was added
pub record Appends (result : Result (Unit {0}) CallError) (name bytes : List ℕ) (old new : PlaceState) : Type 0 where
  pub telling : KeepsTelling old new
  pub reads : new.read_faults ≡ old.read_faults
  pub writes : CountsFault result old.write_faults new.write_faults
  pub named : old.names_faults ≡ true → NamesFault result name old.failed new.failed
  pub open_file : new.open_file ≡ old.open_file
  pub held : old.tells ≡ true → OnOk result (new.held ≡ with_added old.held name bytes)
  pub refused : old.tells ≡ true → OnErr result ((k : ℕ) × (new.held ≡ with_added old.held name (take k bytes)))
