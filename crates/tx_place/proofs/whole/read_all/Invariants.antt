use Rattle.std.proofs.Common.{◌≡◌, ◌≤◌, ◌-◌, length, true}
use Rattle.std.specs.Str.{chars}
use Rattle.tx_place.specs.Calls.Reading.{IsAsBefore, IsFrontOf}
use Rattle.tx_place.proofs.whole.read_all.Given as goal

abbrev pub invariant-loop-taken : goal.invariant-loop-taken
invariant-loop-taken g l = record {
  place : IsAsBefore (g.P.Place.state l.initial.place) (g.P.Place.state l.place);
  within : length l.all ≤ l.limit;
  front : (g.P.Place.state l.initial.place).tells ≡ true → IsFrontOf ((g.P.Place.state l.initial.place).held (chars l.name)) l.all;
}

abbrev pub decreases-loop-taken : goal.decreases-loop-taken
decreases-loop-taken g l = l.limit - length l.all
