use Rattle.std.proofs.Common.{ℕ, List, ◌++◌}
use Rattle.tx_script.specs.Calls.Counts.{Counts}
use Rattle.tx_script.proofs.UsesLemmas.{names_to}
use Rattle.tx_script.proofs.uses.Uses.add_links.Given as goal

abbrev pub invariant-loop-link : goal.invariant-loop-link
invariant-loop-link l = (names : List (List ℕ)) → Counts l.fn.self.once l.fn.self.twice names → Counts l.self.once l.self.twice (names_to l.link-index l.links ++ names)
