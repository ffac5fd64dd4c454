-- Lists repeated.
use Rattle.std.proofs.Common.{◌≡◌, ◌+◌, ◌++◌, ◌==◌, ℕ, zero, suc, true, List, [], ◌∷◌, length, append-nil, append_assoc, add-one, arith, refl, sym, ap, ◌∙◌}
use Rattle.std.proofs.lemmas.Bool.{eqb-true}
use Rattle.tx_ops.specs.Binary.{copies}

copies_more : {A : Type 0} (n : ℕ) (items : List A) → copies n items ++ items ≡ copies (suc n) items
copies_more zero items = sym (append-nil items)
copies_more (suc n) items = append_assoc items (copies n items) items ∙ ap (λ t. items ++ t) (copies_more n items)

-- one turn of the loop
pub copies_step : {A : Type 0} (i : ℕ) (items made next : List A) → made ≡ copies i items → next ≡ made ++ items → next ≡ copies (i + 1) items
copies_step i items made next m n = n ∙ (ap (λ t. t ++ items) m ∙ rw (add-one i) (copies_more i items))

pub copies-nil : {A : Type 0} (n : ℕ) → copies {A = A} n [] ≡ []
copies-nil zero = refl
copies-nil (suc n) = copies-nil n

pub empty_copies : {A : Type 0} (n : ℕ) (items : List A) → true ≡ (length items == 0) → [] ≡ copies n items
empty_copies n [] e = sym (copies-nil n)
empty_copies n (x ∷ items) e = let none : length (x ∷ items) ≡ 0 = eqb-true (length (x ∷ items)) 0 (sym e) in absurd (omega arith)
