-- What a call leaves of the counts.
use Rattle.std.specs.Prelude.{◌≡◌, ℕ, ◌-◌, ◌≤◌}
use Rattle.tx_base.specs.Count.{counted}
use Rattle.tx_base.specs.declared.meter.Meter.{Meter}

-- `steps` does not fall, the count of interpreted functions follows it, and that of typed runs stays
pub record Follows (steps after : ℕ) (meter later : Meter) : Type 0 where
  pub rises : steps ≤ after
  pub interp : later.interp ≡ counted meter.interp (after - steps)
  pub typed : later.typed ≡ meter.typed
