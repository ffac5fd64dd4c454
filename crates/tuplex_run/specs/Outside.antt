-- All that a command touches, at one moment.
use Rattle.std.specs.Prelude.{ℕ}
use Rattle.tx_base.specs.declared.meter.Meter.{Meter}
use Rattle.tx_place.specs.Place.{PlaceState}
use Rattle.tx_place.specs.Console.{ConsoleState}

pub record Outside : Type 0 where
  pub place : PlaceState
  pub console : ConsoleState
  -- how many evaluations of functions were made, as a count that has no end and in the meter
  pub steps : ℕ
  pub meter : Meter

abbrev pub outside : PlaceState → ConsoleState → ℕ → Meter → Outside
outside place console steps meter = record { place = place; console = console; steps = steps; meter = meter }

-- at the beginning of the program nothing was counted
abbrev pub at_start : PlaceState → ConsoleState → Outside
at_start place console = outside place console 0 (record { interp = 0; typed = 0 })
