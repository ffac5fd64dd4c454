use Rattle.std.proofs.Common.{◌≡◌, ◌||◌, drop}
use Rattle.tx_values.specs.Equality.{equal, has_pair}
use Rattle.tx_values.specs.Calls.Lists.{equal_all, all_within}
use Rattle.tx_values.proofs.equality.+equal.Given as goal

abbrev pub invariant-all_within-loop-i : goal.invariant-all_within-loop-i
invariant-all_within-loop-i l = all_within (drop l.i l.ps) l.qs ≡ all_within l.ps l.qs

abbrev pub invariant-equal_all-loop-i : goal.invariant-equal_all-loop-i
invariant-equal_all-loop-i l = equal_all (drop l.i l.xs) (drop l.i l.ys) ≡ equal_all l.xs l.ys

abbrev pub invariant-all_within-loop-q : goal.invariant-all_within-loop-q
invariant-all_within-loop-q l = has_pair l.qs (equal l.p.0, equal l.p.1) ≡ (l.found || has_pair (drop l.q-index l.qs) (equal l.p.0, equal l.p.1))
