-- How many slots lie below a number.
use Rattle.std.proofs.Common.{◌≡◌, ℕ, zero, suc, List, [], ◌∷◌, ◌++◌, length, refl, ap, ◌∙◌}
use Rattle.tx_name_set.specs.NameSet.{slots_below}
use Rattle.tx_names.specs.declared.code.Routine.{Routine}
use Rattle.tx_names.specs.Function.{locals_of}
use Rattle.tx_names.specs.View.{routine_of}
use Rattle.tx_names.proofs.Nodes.{routine_is}

pushed : (xs : List ℕ) (x : ℕ) → length (xs ++ x ∷ []) ≡ suc (length xs)
pushed [] x = refl
pushed (y ∷ xs) x = ap suc (pushed xs x)

pub slots_counted : (n : ℕ) → length (slots_below n) ≡ n
slots_counted zero = refl
slots_counted (suc n) = pushed (slots_below n) n ∙ ap suc (slots_counted n)

pub slots_are : (x : Routine) → length (locals_of (routine_of x)) ≡ x.slots
slots_are x = ap (λ f. length (locals_of f)) (routine_is x) ∙ slots_counted x.slots
