-- How often a part stands in a text.
use Rattle.std.proofs.Common.{◌≡◌, ◌≢◌, refl, ap, ℕ, ◌+◌, ◌-◌, true, false, List, [], ◌∷◌, length, nat_eq, chars, arith}
use Rattle.std.proofs.lemmas.Bool.{both_ways, eqb-true}
use Rattle.std.proofs.lemmas.Str.{chars-nil}
use Rattle.tx_text.specs.Text.{pieces, count_of}
use Rattle.tx_text.specs.Laws.{CountLaw}
use Rattle.tx_text.proofs.Pieces.{pieces_from-some}

pub count_of-pieces : (sep text : List ℕ) (n : ℕ) → sep ≢ [] → length (pieces sep text) ≡ n + 1 → n ≡ count_of sep text
count_of-pieces [] text n some h = absurd (some refl)
count_of-pieces (c ∷ sep) text n some h = omega arith

pub count_of-empty : (part s : List ℕ) (n : ℕ) → nat_eq (length part) 0 ≡ true → n ≡ length (chars s) → n + 1 ≡ count_of (chars part) (chars s)
count_of-empty [] s n t e = rw chars-nil (omega arith)
count_of-empty (c ∷ part) s n t e = absurd (omega (arith, eqb-true (length (c ∷ part)) 0 t))

pub not_empty : (part : List ℕ) → nat_eq (length part) 0 ≡ false → part ≢ []
not_empty part t e = both_ways (nat_eq (length part) 0) t (ap (λ x. nat_eq (length x) 0) e)

some_length : {X : Type 0} (xs : List X) → (xs ≡ [] → ⊥) → length xs - 1 + 1 ≡ length xs
some_length [] some = absurd (some refl)
some_length (x ∷ xs) some = omega arith

count_some : (part text : List ℕ) → part ≢ [] → count_of part text + 1 ≡ length (pieces part text)
count_some [] text some = absurd (some refl)
count_some (c ∷ part) text some = some_length (pieces (c ∷ part) text) (pieces_from-some (c ∷ part) 0 text)

pub count_law : CountLaw
count_law part text = (count_some part text, λ none. rw none refl)
