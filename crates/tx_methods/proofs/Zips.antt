-- Items side by side.
use Rattle.std.proofs.Common.{◌≡◌, ◌∙◌, ℕ, zero, suc, ◌+◌, ◌<◌, ◌≤◌, min, add-one, drop, get_or, Bool, true, false, List, [], ◌∷◌, length, map, Ok, Err, refl, sym, ap, subst, arith}
use Rattle.std.specs.Prelude.{if◌then◌else◌, IfOk, zip}
use Rattle.std.specs.List.{list_all}
use Rattle.std.proofs.lemmas.List.{length-map}
use Rattle.std.proofs.lemmas.Slice.Zip.{length-zip}
use Rattle.tx_base.specs.declared.class.Class.TheVariants.{ProfileError}
use Rattle.tx_values.specs.declared.value.Value.{Value}
use Rattle.tx_values.specs.Answer.{◌>>=◌}
use Rattle.tx_values.specs.Limits.{in_limits}
use Rattle.tx_methods.specs.Walks.{couple, couples, iterate_of}
use Rattle.tx_methods.specs.Laws.{ZipLaw}

as_many : (n : ℕ) (pairs : List (Value × Value)) (b : Bool) → length pairs ≡ n → IfOk (if b then Ok (map couple pairs) else Err ProfileError) (λ items. length items ≡ n)
as_many n pairs true e = length-map pairs couple ∙ e
as_many n pairs false e = tt

pub zip_law : ZipLaw
zip_law a b xs ys e f =
    subst (λ r. IfOk r (λ items. length items ≡ min (length xs) (length ys)))
    (sym (ap (λ o. o >>= (λ lefts. iterate_of b >>= (λ rights. couples (zip lefts rights)))) e ∙ ap (λ o. o >>= (λ rights. couples (zip xs rights))) f))
    (as_many (min (length xs) (length ys)) (zip xs ys) (list_all (λ pair. in_limits (couple pair)) (zip xs ys)) (length-zip xs ys))

-- ---- two lists gone through side by side

zip_at : {A B : Type 0} (xs : List A) (ys : List B) (i : ℕ) (x : A) (y : B) → i < length xs → i < length ys → x ≡ get_or xs i x → y ≡ get_or ys i y
    → zip (drop i xs) (drop i ys) ≡ (x, y) ∷ zip (drop (suc i) xs) (drop (suc i) ys)
zip_at [] ys i x y h k e f = absurd (omega arith)
zip_at (a ∷ xs) [] i x y h k e f = absurd (omega arith)
zip_at (a ∷ xs) (b ∷ ys) zero x y h k e f = ap (λ p. p ∷ zip xs ys) (ap (λ z. (z, b)) (sym e) ∙ ap (λ z. (x, z)) (sym f))
zip_at (a ∷ xs) (b ∷ ys) (suc i) x y h k e f = zip_at xs ys i x y (omega arith) (omega arith) e f

pub zip_step : {A B : Type 0} (xs : List A) (ys : List B) (i : ℕ) (x : A) (y : B) → i < length xs → i < length ys → x ≡ get_or xs i x → y ≡ get_or ys i y
    → zip (drop i xs) (drop i ys) ≡ (x, y) ∷ zip (drop (i + 1) xs) (drop (i + 1) ys)
zip_step xs ys i x y h k e f = rw add-one (zip_at xs ys i x y h k e f)

pub zip_end : {A B : Type 0} (xs : List A) (ys : List B) (i : ℕ) → min (length xs) (length ys) ≤ i → zip (drop i xs) (drop i ys) ≡ []
zip_end [] ys zero h = refl
zip_end [] ys (suc i) h = refl
zip_end (a ∷ xs) [] zero h = refl
zip_end (a ∷ xs) [] (suc i) h = none (drop i xs)
  where
    none : {A B : Type 0} (xs : List A) → zip {K = A} {X = B} xs [] ≡ []
    none [] = refl
    none (x ∷ xs) = refl
zip_end (a ∷ xs) (b ∷ ys) zero h = absurd (omega arith)
zip_end (a ∷ xs) (b ∷ ys) (suc i) h = zip_end xs ys i (omega arith)

pub ruleset zip_rules = (zip_step, zip_end)
