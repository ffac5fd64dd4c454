-- What a call inside the crate leaves of the counts.
use Rattle.std.specs.Prelude.{◌≡◌, ℕ, ◌-◌, ◌≤◌, min}
use Rattle.tx_base.specs.Count.{counted, last_count}
use Rattle.tx_base.specs.declared.meter.Meter.{Meter}

-- `Follows` of counts that are no larger than the last one
pub record Tracks (steps after : ℕ) (meter later : Meter) : Type 0 where
  pub rises : steps ≤ after
  pub interp : min later.interp last_count ≡ counted meter.interp (after - steps)
  pub typed : later.typed ≡ meter.typed
