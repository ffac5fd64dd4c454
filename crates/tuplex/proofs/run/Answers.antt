use Rattle.std.proofs.Common.{◌≡◌, ℕ, subst}
use Rattle.tx_base.specs.declared.meter.Meter.{Meter}
use Rattle.tx_place.specs.Place.{PlaceState}
use Rattle.tx_place.specs.Console.{ConsoleState}
use Rattle.tuplex_run.specs.Outside.{Outside, outside, at_start}
use Rattle.tuplex_run.specs.Ends.{RunsPlainly, Ended, OtherCommands}
use Rattle.tuplex.proofs.run.Goals as goal

-- counts that begin at 0
at_none : (m : Meter) → m.interp ≡ 0 → m.typed ≡ 0 → m ≡ record { interp = 0; typed = 0 }
at_none m a b = λ i. record { interp = a i; typed = b i }

from_start : (P : Outside → Type 0) (place : PlaceState) (console : ConsoleState) (s : ℕ) (m : Meter) → s ≡ 0 → m.interp ≡ 0 → m.typed ≡ 0
    → P (outside place console s m) → P (at_start place console)
from_start P place console s m e a b h =
    subst (λ (n : ℕ). P (outside place console n (record { interp = 0; typed = 0 }))) e
    (subst (λ (n : Meter). P (outside place console s n)) (at_none m a b) h)

pub returns-clause-ends : goal.returns-clause-ends
returns-clause-ends g c =
    let place = g.P.Place.state c.args.place.now in
    let console = g.C.Console.state c.args.console.now in
    let new = outside (g.P.Place.state c.run_words.new.place) (g.C.Console.state c.run_words.new.console) c.run_words.new.steps c.run_words.new.meter in
    let at : (P : Outside → Type 0) → P (outside place console c.open-steps.result c.new-meter.result) → P (at_start place console) =
    λ P h. from_start P place console c.open-steps.result c.new-meter.result c.open-steps.ensures c.new-meter.ensures.interp c.new-meter.ensures.typed h in (
      c.run_words.new.steps,
      c.run_words.new.meter,
      (
        at (λ old. RunsPlainly c.args.words.now old new c.run_words.result) c.run_words.ensures.headline,
        at (λ old. Ended c.args.words.now old new c.run_words.result) c.run_words.ensures.ended,
        λ t. at (λ old. OtherCommands c.args.words.now old new c.run_words.result) (c.run_words.ensures.others t),
      ),
    )
