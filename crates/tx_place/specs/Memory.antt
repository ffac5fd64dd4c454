-- Files as a list of pairs of a name and bytes, and a place and a console in memory.
use Rattle.std.specs.Prelude.{◌≡◌, ◌⊎◌, ◌==◌, ℕ, Bool, true, List, [], ◌∷◌, Option, Some, None, if◌then◌else◌}
use Rattle.std.specs.List.{list_any}
use Rattle.std.specs.Str.{bytes_eq}
use Rattle.tx_place.specs.Count.{next_count}
use Rattle.tx_place.specs.Place.{Held, PlaceState}
use Rattle.tx_place.specs.Console.{ConsoleState}

-- the bytes under a name
abbrev pub held_by : List (List ℕ × List ℕ) → Held
held_by [] name = None
held_by (file ∷ files) name = if bytes_eq name file.0 then Some file.1 else held_by files name

-- a place in memory
pub record MemoryFiles : Type 0 where
  pub files : List (List ℕ × List ℕ)
  pub failing : List ℕ
  pub most : ℕ
  -- how many calls were made
  pub calls : ℕ
  pub read_faults : ℕ
  pub write_faults : ℕ
  pub failed : Option (List ℕ)
  pub open_file : Option (List ℕ)

abbrev pub memory_state : MemoryFiles → PlaceState
memory_state m = record {
  tells = true;
  names_faults = true;
  held = held_by m.files;
  failed = m.failed;
  read_faults = m.read_faults;
  write_faults = m.write_faults;
  open_file = m.open_file;
}

-- that call is to fail
abbrev pub is_failing : List ℕ → ℕ → Bool
is_failing failing number = list_any (λ n. n == number) failing

-- a read that fails: the call is to fail, or there is no such file
abbrev pub IsReadFailure : MemoryFiles → List ℕ → Type 0
IsReadFailure m name = (is_failing m.failing (next_count m.calls) ≡ true) ⊎ (held_by m.files name ≡ None)

-- a console in memory
pub record MemoryTalk : Type 0 where
  pub said : List ℕ
  pub complained : List ℕ
  pub failing : List ℕ
  pub calls : ℕ
  pub say_faults : ℕ
  pub complain_faults : ℕ
  pub memory_refusals : ℕ

abbrev pub talk_state : MemoryTalk → ConsoleState
talk_state m = record {
  tells = true;
  said = m.said;
  complained = m.complained;
  say_faults = m.say_faults;
  complain_faults = m.complain_faults;
  memory_refusals = m.memory_refusals;
}
