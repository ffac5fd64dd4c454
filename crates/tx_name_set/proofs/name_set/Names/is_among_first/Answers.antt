use Rattle.std.proofs.Common.{◌≡◌, ℕ, List, take, subst, false}
use Rattle.std.specs.Prelude.{nat_lt}
use Rattle.tx_tree.specs.Words.{same_text}
use Rattle.tx_name_set.specs.NameSet.{is_in}
use Rattle.tx_name_set.proofs.Places.{among_found, among_none}
use Rattle.tx_name_set.proofs.name_set.Names.is_among_first.Goals as goal

pub returns-in-Some : goal.returns-in-Some
returns-in-Some c = subst (λ (ns : List (List ℕ)). nat_lt c.in-Some.place c.args.count ≡ is_in (take c.args.count ns) c.args.name.now) c.self.view_is (among_found (same_text c.args.name.now) c.self.inside.set.keys c.in-Some.place c.args.count c.in-Some.ensures.index)

pub returns-in-None : goal.returns-in-None
returns-in-None c = subst (λ (ns : List (List ℕ)). false ≡ is_in (take c.args.count ns) c.args.name.now) c.self.view_is (among_none (same_text c.args.name.now) c.self.inside.set.keys c.args.count c.in-None.ensures.index)
