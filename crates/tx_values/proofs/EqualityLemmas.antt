-- Equality of values, layer by layer, and of pairs.
use Rattle.std.proofs.Common.{◌≡◌, ◌⊎◌, inl, inr, ℕ, ℤ, suc, Bool, true, false, ◌&&◌, ◌||◌, ◌==◌, List, [], ◌∷◌, length, map, refl, sym, ap, ◌∙◌}
use Rattle.std.specs.List.{AllByRecursion}
use Rattle.std.specs.Cmp.Lexicographic.{bytes_decides}
use Rattle.std.specs.Ordering.{int_eq}
use Rattle.std.proofs.lemmas.Bool.{true≢false, eq-eqb, eqb-true}
use Rattle.std.proofs.lemmas.Bool.Decides.{Decides-int_eq}
use Rattle.tx_values.specs.declared.value.Value.{Value, out-Value, roll-Value, out-roll-Value, map-Value, fold-roll-Value}
use Rattle.tx_values.specs.declared.value.Value.TheOpen.{Value-F}
use Rattle.tx_values.specs.Equality.{Test, equal, equal_open, has_pair, same_text}
use Rattle.tx_values.specs.Calls.Lists.{all_within}
use Rattle.tx_values.proofs.Pigeonhole.{Any, Placed}

abbrev pub Yes : Bool → Type 0
Yes b = b ≡ true

pub both : (a b : Bool) → Yes a → Yes b → Yes (a && b)
both true b p q = q
both false b p q = p

pub first : (a b : Bool) → Yes (a && b) → Yes a
first true b p = refl
first false b p = p

pub second : (a b : Bool) → Yes (a && b) → Yes b
second true b p = p
second false b p = absurd (true≢false (sym p))

pub no_yes : {A : Type 0} → false ≡ true → A
no_yes e = absurd (true≢false (sym e))

-- ---- numbers and texts

pub int_same : (m n : ℤ) → Yes (int_eq m n) → m ≡ n
int_same m n = (Decides-int_eq m n).0

pub int_itself : (m : ℤ) → Yes (int_eq m m)
int_itself m = (Decides-int_eq m m).1 refl

pub text_same : (s t : List ℕ) → Yes (same_text s t) → s ≡ t
text_same s t = (bytes_decides s t).0

pub text_itself : (s : List ℕ) → Yes (same_text s s)
text_itself s = (bytes_decides s s).1 refl

-- ---- two layers

abbrev pub same : Value-F Value → Value-F Value → Bool
same x y = equal_open (map-Value Value Test equal x) y

pub rolled : (x y : Value-F Value) → equal (roll-Value x) (roll-Value y) ≡ same x y
rolled x y = ap (λ (t : Test). t (roll-Value y)) (fold-roll-Value Test (λ z b. equal_open z (out-Value b)) x) ∙ ap (equal_open (map-Value Value Test equal x)) (out-roll-Value y)

-- ---- pairs

abbrev pub Pair : Type 0
Pair = Value × Value

abbrev pub tests : List Pair → List (Test × Test)
tests ps = map (λ p. (equal p.0, equal p.1)) ps

tests_length : (ps : List Pair) → length (tests ps) ≡ length ps
tests_length [] = refl
tests_length (p ∷ ps) = ap suc (tests_length ps)

abbrev pub Like : Pair → Pair → Type 0
Like p q = Yes (equal p.0 q.0) × Yes (equal p.1 q.1)

any_of : (p : Pair) (qs : List Pair) → Yes (has_pair qs (equal p.0, equal p.1)) → Any (Like p) qs
any_of p [] e = no_yes e
any_of p (q ∷ qs) e = go (equal p.0 q.0) (equal p.1 q.1) (any_of p qs) e
  where
    go : (a b : Bool) → (Yes (has_pair qs (equal p.0, equal p.1)) → Any (Like p) qs) → Yes ((a && b) || has_pair qs (equal p.0, equal p.1)) → (Yes a × Yes b) ⊎ Any (Like p) qs
    go true true rest h = inl (refl, refl)
    go true false rest h = inr (rest h)
    go false b rest h = inr (rest h)

of_any : (p : Pair) (qs : List Pair) → Any (Like p) qs → Yes (has_pair qs (equal p.0, equal p.1))
of_any p [] a = absurd a
of_any p (q ∷ qs) (inl l) = ap (λ b. b || has_pair qs (equal p.0, equal p.1)) (both (equal p.0 q.0) (equal p.1 q.1) l.0 l.1)
of_any p (q ∷ qs) (inr a) = go (equal p.0 q.0 && equal p.1 q.1) (of_any p qs a)
  where
    go : (b : Bool) → Yes (has_pair qs (equal p.0, equal p.1)) → Yes (b || has_pair qs (equal p.0, equal p.1))
    go true h = refl
    go false h = h

-- the test of pairs is true where each pair has its like
each_of : (ps qs : List Pair) → Yes (all_within ps qs) → AllByRecursion (Placed Like qs) ps
each_of [] qs e = tt
each_of (p ∷ ps) qs e = (any_of p qs (first (has_pair qs (equal p.0, equal p.1)) (all_within ps qs) e), each_of ps qs (second (has_pair qs (equal p.0, equal p.1)) (all_within ps qs) e))

of_each : (ps qs : List Pair) → AllByRecursion (Placed Like qs) ps → Yes (all_within ps qs)
of_each [] qs h = refl
of_each (p ∷ ps) qs h = both (has_pair qs (equal p.0, equal p.1)) (all_within ps qs) (of_any p qs h.0) (of_each ps qs h.1)

-- ---- two dictionaries

pub as_long : (ps qs : List Pair) → Yes ((length (tests ps) == length qs) && all_within ps qs) → length ps ≡ length qs
as_long ps qs e = sym (tests_length ps) ∙ eqb-true (length (tests ps)) (length qs) (first (length (tests ps) == length qs) (all_within ps qs) e)

pub placed_of : (ps qs : List Pair) → Yes ((length (tests ps) == length qs) && all_within ps qs) → AllByRecursion (Placed Like qs) ps
placed_of ps qs e = each_of ps qs (second (length (tests ps) == length qs) (all_within ps qs) e)

pub dict_of : (ps qs : List Pair) → length ps ≡ length qs → AllByRecursion (Placed Like qs) ps → Yes ((length (tests ps) == length qs) && all_within ps qs)
dict_of ps qs long h = both (length (tests ps) == length qs) (all_within ps qs) (eq-eqb (length (tests ps)) (length qs) (tests_length ps ∙ long)) (of_each ps qs h)
