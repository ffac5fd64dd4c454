-- The item of a stack that was pushed first.
use Rattle.std.proofs.Common.{◌≡◌, ◌∙◌, List, [], ◌∷◌, ◌++◌, Option, Some, None, reverse, refl, ap}
use Rattle.std.specs.Prelude.{slice_get}
use Rattle.std.specs.List.{last_or}
use Rattle.std.proofs.lemmas.List.{reverse-append}

last_push : {A : Type 0} (o : Option A) (xs : List A) (x : A) → last_or o (xs ++ x ∷ []) ≡ Some x
last_push o [] x = refl
last_push o (y ∷ xs) x = last_push (Some y) xs x

pub first_pushed : {A : Type 0} (xs : List A) → last_or None (reverse xs) ≡ slice_get xs 0
first_pushed [] = refl
first_pushed (x ∷ xs) = ap (last_or None) (reverse-append (x ∷ []) xs) ∙ last_push None (reverse xs) x
