use Rattle.std.proofs.Common.{◌≡◌, ◌++◌, ◌==◌, drop, filter}
use Rattle.tx_plain.proofs.reporting.add_of.Given as goal

abbrev pub invariant-loop-entry : goal.invariant-loop-entry
invariant-loop-entry l = l.entries ++ filter (λ entry. entry.operator == l.number) (drop l.entry-index l.all) ≡ l.initial.entries ++ filter (λ entry. entry.operator == l.number) l.all
