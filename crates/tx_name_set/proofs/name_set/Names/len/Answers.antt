use Rattle.std.proofs.Common.{◌≡◌, ℕ, List, length, map, subst}
use Rattle.tx_name_set.specs.NameSet.{place_in, slots_below}
use Rattle.tx_name_set.proofs.Places.{places_below}
use Rattle.tx_name_set.proofs.name_set.Names.len.Goals as goal

pub returns-clause-places : goal.returns-clause-places
returns-clause-places c = subst (λ (ns : List (List ℕ)). map (place_in ns) ns ≡ slots_below (length ns)) c.self.view_is (places_below c.self.inside.set.keys c.len.ensures.unique)
