-- Counts that follow one another.
use Rattle.std.proofs.Common.{◌≡◌, ℕ, ◌+◌, ◌-◌, ◌≤◌, min, refl, ◌∙◌, arith}
use Rattle.tx_base.specs.Count.{counted, last_count}
use Rattle.tx_base.specs.declared.meter.Meter.{Meter}
use Rattle.tx_plain.specs.Counts.{Follows}
use Rattle.tx_plain.specs.Calls.Tracking.{Tracks}

capped_on : (x y z a b c last : ℕ) → a ≤ b → b ≤ c → min y last ≡ min (x + (b - a)) last → min z last ≡ min (y + (c - b)) last → min z last ≡ min (x + (c - a)) last
capped_on x y z a b c last ab bc e f = omega (arith, ab, bc, e, f)

pub tracks_on : (s0 s1 s2 : ℕ) (m0 m1 m2 : Meter) → Tracks s0 s1 m0 m1 → Tracks s1 s2 m1 m2 → Tracks s0 s2 m0 m2
tracks_on s0 s1 s2 m0 m1 m2 f g = record {
  rises = omega (arith, f.rises, g.rises);
  interp = capped_on m0.interp m1.interp m2.interp s0 s1 s2 last_count f.rises g.rises f.interp g.interp;
  typed = g.typed ∙ f.typed;
}

capped_none : (x a last : ℕ) → min x last ≡ min (x + (a - a)) last
capped_none x a last = omega arith

pub tracks_none : (s : ℕ) (m : Meter) → Tracks s s m m
tracks_none s m = record { rises = omega arith; interp = capped_none m.interp s last_count; typed = refl }

capped_one : (x y a b last : ℕ) → b ≡ a + 1 → y ≡ min (x + 1) last → min y last ≡ min (x + (b - a)) last
capped_one x y a b last e f = omega (arith, e, f)

pub tracks_one : (s t : ℕ) (m l : Meter) → t ≡ s + 1 → l.interp ≡ counted m.interp 1 → l.typed ≡ m.typed → Tracks s t m l
tracks_one s t m l e f h = record { rises = omega (arith, e); interp = capped_one m.interp l.interp s t last_count e f; typed = h }

uncapped : (x y n last : ℕ) → y ≤ last → min y last ≡ min (x + n) last → y ≡ min (x + n) last
uncapped x y n last h e = omega (arith, h, e)

pub follows : (s t : ℕ) (m l : Meter) → l.interp ≤ last_count → Tracks s t m l → Follows s t m l
follows s t m l h f = record { rises = f.rises; interp = uncapped m.interp l.interp (t - s) last_count h f.interp; typed = f.typed }

pub ruleset tracks = (tracks_on, tracks_none)
