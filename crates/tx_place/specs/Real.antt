-- The real place and the real console: they tell nothing of what they hold, and say of a stream what the kit knows of it.
use Rattle.std.specs.Prelude.{ℕ, List, [], false, Option, None}
use Rattle.tx_place.specs.Place.{PlaceState}
use Rattle.tx_place.specs.Console.{ConsoleState}

-- a place that tells no more than its counts of faults and the name of its open file
abbrev pub silent_place : ℕ → ℕ → Option (List ℕ) → PlaceState
silent_place read_faults write_faults open_file = record {
  tells = false;
  names_faults = false;
  held = λ _. None;
  failed = None;
  read_faults = read_faults;
  write_faults = write_faults;
  open_file = open_file;
}

-- a console that tells no more than its counts of faults, and that never finds no memory
abbrev pub silent_console : ℕ → ℕ → ConsoleState
silent_console say_faults complain_faults = record {
  tells = false;
  said = [];
  complained = [];
  say_faults = say_faults;
  complain_faults = complain_faults;
  memory_refusals = 0;
}
