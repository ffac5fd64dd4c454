-- An item of a list, and those behind it.
use Rattle.std.proofs.Common.{◌≡◌, ℕ, suc, ◌<◌, List, ◌∷◌, length, drop, get_or, sym, ap, ◌∙◌, drop-cons}

pub item_next : {A : Type 0} (xs : List A) (i j : ℕ) (x : A) → i < length xs → x ≡ get_or xs i x → j ≡ suc i → x ∷ drop j xs ≡ drop i xs
item_next xs i j x h e k = ap (λ m. x ∷ drop m xs) k ∙ ap (λ y. y ∷ drop (suc i) xs) e ∙ sym (drop-cons xs i x h)
