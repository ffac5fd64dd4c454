use Rattle.std.proofs.Common.{◌∙◌, ◌≤◌, length, arith, subst, ℕ}
use Rattle.std.specs.Str.{chars}
use Rattle.tx_place.specs.Place.{Held, Took}
use Rattle.tx_place.specs.Calls.Reading.{IsAsBefore}
use Rattle.tx_place.proofs.Fronts.{IsFrontOf-more, IsAsBefore-more, length-more}
use Rattle.tx_place.proofs.whole.read_all.Goals as goal

pub loop-taken-preserved : goal.loop-taken-preserved
loop-taken-preserved g c =
    let old = g.P.Place.state c.args.place.now in
    let mid = g.P.Place.state c.loop-taken.place in
    let new = g.P.Place.state c.read_at.new.self in
    let name = chars c.args.name.now in
    let was = c.loop-taken.invariant in
    let e = c.in-Ok.ensures.does in
    let fits : c.in-Ok.taken ≤ length c.read_at.new.into = omega (arith, e.within, c.read_at.auto.into) in
    let more = c.in_ok-push_all.ensures.ok in
    let step : IsAsBefore (g.P.Place.state c.loop-taken.place) (g.P.Place.state c.read_at.new.self) = record {
      telling = e.telling;
      reads = e.reads;
      writes = e.writes;
      open_file = e.open_file;
      named = e.named;
      held = e.held;
    } in
    record {
      place = IsAsBefore-more _ _ _ was.place step;
      within = omega (arith, length-more _ _ _ _ fits more, was.within, c.len.ensures, c.len-in-loop-taken.ensures);
      front = λ h.
          let took = e.took (was.place.telling.tells ∙ h) in
          let P : Held → Type 0 = λ held. Took (held name) c.len.result c.in-Ok.taken c.read_at.new.into in
          let Q : ℕ → Type 0 = λ n. Took (old.held name) n c.in-Ok.taken c.read_at.new.into in
          IsFrontOf-more (old.held name) c.loop-taken.all c.read_at.new.into c.push_all.new.self c.in-Ok.taken (was.front h)
          (subst Q c.len.ensures (subst P (was.place.held h) took)) fits more;
    }
