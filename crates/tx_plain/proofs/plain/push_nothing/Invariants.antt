use Rattle.std.proofs.Common.{◌≡◌, ◌-◌, ◌++◌, [], replicate}
use Rattle.tx_plain.specs.declared.stored.Stored.TheVariants as stored_is
use Rattle.tx_plain.proofs.plain.push_nothing.Given as goal

abbrev pub invariant-loop-turn : goal.invariant-loop-turn
invariant-loop-turn l = l.stored.items ++ replicate (l.count - l.turn) (stored_is.Made []) ≡ l.initial.stored.items ++ replicate l.count (stored_is.Made [])
