-- Pairs entered in a dictionary: an equal key is at the first place where there is one.
use Rattle.std.proofs.Common.{◌≡◌, ℕ, zero, suc, ◌+◌, ◌++◌, List, [], ◌∷◌, Option, Some, None, Bool, true, false, not, length, slice_set, if◌then◌else◌, refl, sym, ap, ◌∙◌, subst, arith}
use Rattle.std.specs.Prelude.{position, nat_lt, option_map, get_or}
use Rattle.std.specs.List.{position_or_len}
use Rattle.std.proofs.lemmas.Bool.Decides.{nat_tests}
use Rattle.tx_values.specs.declared.value.Value.{Value}
use Rattle.tx_values.specs.Equality.{equal}
use Rattle.tx_meaning.specs.Containers.{enter}

none_some : {A : Type 0} {x : A} → None ≡ Some x → ⊥
none_some h = cc

some_one : {A : Type 0} {x y : A} → Some x ≡ Some y → x ≡ y
some_one h = cc

less_next : (m n : ℕ) → nat_lt (1 + m) (suc n) ≡ nat_lt m n
less_next m n = grind (arith, nat_tests)

zero_less : (n : ℕ) → nat_lt 0 (suc n) ≡ true
zero_less n = grind (arith, nat_tests)

position_step : {X : Type 0} (p : X → Bool) (x : X) (xs : List X) → position p (x ∷ xs) ≡ (if p x then Some 0 else option_map suc (position p xs))
position_step p x xs = by_test (p x)
  where
    by_place : (b : Bool) → (if b then Some (1 + position_or_len p xs) else None) ≡ option_map suc (if b then Some (position_or_len p xs) else None)
    by_place true = ap Some (omega arith)
    by_place false = refl

    by_test : (b : Bool) → (if nat_lt (if not b then 1 + position_or_len p xs else 0) (suc (length xs)) then Some (if not b then 1 + position_or_len p xs else 0) else None) ≡ (if b then Some 0 else option_map suc (position p xs))
    by_test true = ap (λ c. if c then Some 0 else None) (zero_less (length xs))
    by_test false = ap (λ c. if c then Some (1 + position_or_len p xs) else None) (less_next (position_or_len p xs) (length xs)) ∙ by_place (nat_lt (position_or_len p xs) (length xs))

abbrev at_key : Value → Value × Value → Bool
at_key key p = equal key p.0

pub entered_new : (key new : Value) (ps : List (Value × Value)) → None ≡ position (λ p. equal key p.0) ps → enter key new ps ≡ ps ++ (key, new) ∷ []
entered_new key new [] h = refl
entered_new key new (p ∷ ps) h = by_test (equal key p.0) (position (λ p. equal key p.0) ps) (h ∙ position_step (λ p. equal key p.0) p ps) (entered_new key new ps)
  where
    by_test : (b : Bool) (o : Option ℕ) → None ≡ (if b then Some 0 else option_map suc o) → (None ≡ o → enter key new ps ≡ ps ++ (key, new) ∷ [])
        → (if b then (p.0, new) ∷ ps else p ∷ enter key new ps) ≡ p ∷ (ps ++ (key, new) ∷ [])
    by_test true o e r = absurd (none_some e)
    by_test false None e r = ap (λ qs. p ∷ qs) (r refl)
    by_test false (Some j) e r = absurd (none_some e)

pub entered_at : (key new : Value) (ps : List (Value × Value)) (i : ℕ) (d : Value × Value) → Some i ≡ position (λ p. equal key p.0) ps → enter key new ps ≡ slice_set ps i ((get_or ps i d).0, new)
entered_at key new [] i d h = absurd (none_some (sym h))
entered_at key new (p ∷ ps) i d h = by_test (equal key p.0) (position (λ p. equal key p.0) ps) (h ∙ position_step (λ p. equal key p.0) p ps) (λ j. entered_at key new ps j d)
  where
    by_test : (b : Bool) (o : Option ℕ) → Some i ≡ (if b then Some 0 else option_map suc o) → ((j : ℕ) → Some j ≡ o → enter key new ps ≡ slice_set ps j ((get_or ps j d).0, new))
        → (if b then (p.0, new) ∷ ps else p ∷ enter key new ps) ≡ slice_set (p ∷ ps) i ((get_or (p ∷ ps) i d).0, new)
    by_test true o e r = subst (λ k. (p.0, new) ∷ ps ≡ slice_set (p ∷ ps) k ((get_or (p ∷ ps) k d).0, new)) (sym (some_one e)) refl
    by_test false None e r = absurd (none_some (sym e))
    by_test false (Some j) e r = subst (λ k. p ∷ enter key new ps ≡ slice_set (p ∷ ps) k ((get_or (p ∷ ps) k d).0, new)) (sym (some_one e)) (ap (λ qs. p ∷ qs) (r j refl))

pub ruleset entering = (entered_new, entered_at)
