use Rattle.std.proofs.Common.{◌≡◌, ◌+◌, ◌-◌, ◌++◌}
use Rattle.tx_plain.specs.Laws.{by_operator}
use Rattle.tx_plain.proofs.reporting.add_by_operator.Given as goal

abbrev pub invariant-loop-turn : goal.invariant-loop-turn
invariant-loop-turn l = l.entries ++ by_operator (l.number + l.turn) (l.count - l.turn) l.all ≡ l.initial.entries ++ by_operator l.number l.count l.all
