use Rattle.std.proofs.Common.{◌≡◌, ◌++◌, drop, Ok}
use Rattle.tx_names.specs.Linked.{◌>>=◌, assigned_slots}
use Rattle.tx_names.specs.Calls.Around.{slot_of, known, scope_of}
use Rattle.tx_names.proofs.called.assigned_slots.Given as goal

abbrev pub invariant-loop-word : goal.invariant-loop-word
invariant-loop-word l = (assigned_slots (slot_of l.around) (known l.around) (scope_of l.around l.inner) (drop l.word-index l.words) >>= (λ r. Ok (l.slots ++ r))) ≡ assigned_slots (slot_of l.around) (known l.around) (scope_of l.around l.inner) l.words
