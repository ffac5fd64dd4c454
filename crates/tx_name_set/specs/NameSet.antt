-- Names in the order in which they were met, each once, with their places. A name is the list of its code points. Whether
-- names are distinct is `distinct` of the well-formed trees.
use Rattle.std.specs.Prelude.{ℕ, zero, suc, Bool, if◌then◌else◌, List, [], ◌∷◌, ◌++◌}
use Rattle.std.specs.List.{list_any, position_or_len}
use Rattle.tx_tree.specs.Words.{same_text}

abbrev pub is_in : List (List ℕ) → List ℕ → Bool
is_in names n = list_any (same_text n) names

-- a new name comes last
abbrev pub add : List (List ℕ) → List ℕ → List (List ℕ)
add met n = if is_in met n then met else met ++ n ∷ []

abbrev pub add_all : List (List ℕ) → List (List ℕ) → List (List ℕ)
add_all met [] = met
add_all met (n ∷ ns) = add_all (add met n) ns

-- the place of a name among some, and their number for one that is not among them
abbrev pub place_in : List (List ℕ) → List ℕ → ℕ
place_in names n = position_or_len (same_text n) names

-- the places below a number
abbrev pub slots_below : ℕ → List ℕ
slots_below zero = []
slots_below (suc n) = slots_below n ++ n ∷ []
