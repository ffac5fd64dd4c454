use Rattle.std.proofs.Common.{◌≡◌, ℕ, List, subst, ◌∙◌}
use Rattle.tx_tree.specs.Words.{same_text}
use Rattle.tx_name_set.specs.NameSet.{place_in}
use Rattle.tx_name_set.proofs.Places.{place_found, place_none}
use Rattle.tx_name_set.proofs.name_set.Names.place.Goals as goal

pub returns-in-Some : goal.returns-in-Some
returns-in-Some c = subst (λ (ns : List (List ℕ)). c.in-Some.place ≡ place_in ns c.args.name.now) c.self.view_is (place_found (same_text c.args.name.now) c.self.inside.set.keys c.in-Some.place c.in-Some.ensures.index)

pub returns-in-None : goal.returns-in-None
returns-in-None c = subst (λ (ns : List (List ℕ)). c.len.result ≡ place_in ns c.args.name.now) c.self.view_is (c.len.ensures.len ∙ place_none (same_text c.args.name.now) c.self.inside.set.keys c.in-None.ensures.index)
