-- The arguments of `range`: one, two or three numbers.
use Rattle.std.proofs.Common.{◌≡◌, ◌∙◌, suc, List, [], ◌∷◌, length, Option, Some, None, Ok, Err, ℤ, refl, sym, ap}
use Rattle.std.specs.Prelude.{MatchResult, ok_or}
use Rattle.tx_base.specs.declared.class.Class.TheVariants.{TypeError}
use Rattle.tx_values.specs.declared.value.Value.{Value, out-Value}
use Rattle.tx_values.specs.Answer.{Answer, ◌>>=◌}
use Rattle.tx_methods.specs.Arguments.{a_number, integer_in}
use Rattle.tx_methods.specs.Walks.{numbers_in, range_by, range_items, range_of}

-- as many numbers as arguments, or TypeError
told : (args : List Value) → MatchResult (numbers_in args) (λ ns. length ns ≡ length args) (λ c. c ≡ TypeError)
told [] = refl
told (a ∷ args) = by_number (integer_in (out-Value a)) (numbers_in args) (told args)
  where
    by_number : (o : Option ℤ) (r : Answer (List ℤ)) → MatchResult r (λ ns. length ns ≡ length args) (λ c. c ≡ TypeError)
        → MatchResult (ok_or o TypeError >>= (λ n. r >>= (λ ns. Ok (n ∷ ns)))) (λ ns. length ns ≡ suc (length args)) (λ c. c ≡ TypeError)
    by_number None r h = refl
    by_number (Some n) (Ok ns) h = ap suc h
    by_number (Some n) (Err c) h = h

other : (ns : List ℤ) → (length ns ≡ 1 → ⊥) → (length ns ≡ 2 → ⊥) → (length ns ≡ 3 → ⊥) → range_by ns ≡ Err TypeError
other [] f g h = refl
other (a ∷ []) f g h = absurd (f refl)
other (a ∷ b ∷ []) f g h = absurd (g refl)
other (a ∷ b ∷ c ∷ []) f g h = absurd (h refl)
other (a ∷ b ∷ c ∷ d ∷ ns) f g h = refl

pub other_numbers : (args : List Value) → (length args ≡ 1 → ⊥) → (length args ≡ 2 → ⊥) → (length args ≡ 3 → ⊥) → range_items args ≡ Err TypeError
other_numbers args f g h = by_answer (numbers_in args) (told args)
  where
    by_answer : (r : Answer (List ℤ)) → MatchResult r (λ ns. length ns ≡ length args) (λ c. c ≡ TypeError) → (r >>= range_by) ≡ Err TypeError
    by_answer (Ok ns) e = other ns (λ k. f (sym e ∙ k)) (λ k. g (sym e ∙ k)) (λ k. h (sym e ∙ k))
    by_answer (Err c) e = ap Err e

pub three_numbers : (a b c : Value) (x y z : ℤ) → a_number a ≡ Ok x → a_number b ≡ Ok y → a_number c ≡ Ok z → range_items (a ∷ b ∷ c ∷ []) ≡ range_of x y z
three_numbers a b c x y z e f g =
    ap (λ o. (o >>= (λ n. numbers_in (b ∷ c ∷ []) >>= (λ ns. Ok (n ∷ ns)))) >>= range_by) e
    ∙ ap (λ o. ((o >>= (λ n. numbers_in (c ∷ []) >>= (λ ns. Ok (n ∷ ns)))) >>= (λ ns. Ok (x ∷ ns))) >>= range_by) f
    ∙ ap (λ o. (((o >>= (λ n. Ok (n ∷ []))) >>= (λ ns. Ok (y ∷ ns))) >>= (λ ns. Ok (x ∷ ns))) >>= range_by) g
