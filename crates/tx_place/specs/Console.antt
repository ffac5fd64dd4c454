-- What a console was told, and all that each of its calls does to that.
use Rattle.std.specs.Prelude.{◌≡◌, ℕ, ◌++◌, List, Bool, true, Result, Ok, Err, take}
use Rattle.tx_place.specs.Count.{CountsFault, CountsRefusal}
use Rattle.tx_place.specs.declared.place.CallError.{CallError}

pub record ConsoleState : Type 0 where
  -- whether it tells what it was told
  pub tells : Bool
  pub said : List ℕ
  pub complained : List ℕ
  pub say_faults : ℕ
  pub complain_faults : ℕ
  -- how often a call answered `NoMemory`, which is no count of faults
  pub memory_refusals : ℕ

-- the bytes, or after a refusal a prefix of them, stand behind the others
abbrev pub Adds : {T : Type 0} → Result T CallError → List ℕ → List ℕ → List ℕ → Type 0
Adds (Ok x) bytes old new = new ≡ old ++ bytes
Adds (Err e) bytes old new = (k : ℕ) × (new ≡ old ++ take k bytes)

-- all that one `say` does
pub record Says (result : Result (Unit {0}) CallError) (bytes : List ℕ) (old new : ConsoleState) : Type 0 where
  pub telling : new.tells ≡ old.tells
  pub says : CountsFault result old.say_faults new.say_faults
  pub complains : new.complain_faults ≡ old.complain_faults
  pub memory_refusals : CountsRefusal result old.memory_refusals new.memory_refusals
  pub said : old.tells ≡ true → Adds result bytes old.said new.said
  pub complained : old.tells ≡ true → new.complained ≡ old.complained

-- all that one `complain` does
pub record Complains (result : Result (Unit {0}) CallError) (bytes : List ℕ) (old new : ConsoleState) : Type 0 where
  pub telling : new.tells ≡ old.tells
  pub says : new.say_faults ≡ old.say_faults
  pub complains : CountsFault result old.complain_faults new.complain_faults
  pub memory_refusals : CountsRefusal result old.memory_refusals new.memory_refusals
  pub said : old.tells ≡ true → new.said ≡ old.said
  pub complained : old.tells ≡ true → Adds result bytes old.complained new.complained
