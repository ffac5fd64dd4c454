-- Names in front of others.
use Rattle.std.proofs.Common.{◌≡◌, refl, Bool, true, false, ◌||◌}
use Rattle.std.proofs.lemmas.List.Folds.{list_any-append}

pub or_assoc : (a b c : Bool) → ((a || b) || c) ≡ (a || (b || c))
or_assoc true b c = refl
or_assoc false b c = refl

pub ruleset inner = (list_any-append, or_assoc)
