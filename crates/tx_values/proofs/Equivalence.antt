-- Equality is reflexive and transitive, and symmetric where the keys of the first value are pairwise unequal.
use Rattle.std.proofs.Common.{◌≡◌, inl, inr, ℕ, ℤ, Bool, true, false, not, ◌&&◌, ◌||◌, List, [], ◌∷◌, length, refl, sym, subst, ◌∙◌}
use Rattle.std.specs.List.{AllByRecursion, list_any, list_all}
use Rattle.std.specs.Ordering.{int_eq}
use Rattle.tx_values.specs.declared.value.Value.{Value, roll-Value}
use Rattle.tx_values.specs.declared.value.Value.TheOpen.{Value-F}
use Rattle.tx_values.specs.declared.value.Value.TheOpen as v
use Rattle.tx_values.specs.Equality.{equal, same_text, number_of}
use Rattle.tx_values.specs.Calls.Lists.{equal_all}
use Rattle.tx_values.specs.Valid.{Parts, told_keys, keyed, hashable, distinct}
use Rattle.tx_values.proofs.Induction.{induct, by_layer}
use Rattle.tx_values.proofs.KeyedLayers.{keyed_all, keyed_layer, keyed_pairs, keyed_rolled, told_of}
use Rattle.tx_values.proofs.Pigeonhole.{Any, each_map, any_both, any_meets, NoneShared, Apart, Placed, Had, covered}
use Rattle.tx_values.proofs.EqualityLemmas.{Yes, both, first, second, no_yes, int_same, int_itself, text_same, text_itself, same, rolled, Pair, Like, as_long, placed_of, dict_of}

-- ---- reflexive

abbrev Itself : Value → Type 0
Itself a = Yes (equal a a)

all_itself : (xs : List Value) → AllByRecursion Itself xs → Yes (equal_all xs xs)
all_itself [] h = refl
all_itself (x ∷ xs) h = both (equal x x) (equal_all xs xs) h.0 (all_itself xs h.1)

-- each pair is among the pairs
among_itself : (ps : List Pair) → AllByRecursion {X = Pair} (λ p. Itself p.0 × Itself p.1) ps → AllByRecursion (Placed Like ps) ps
among_itself [] h = tt
among_itself (p ∷ ps) h = (inl h.0, each_map (Placed Like ps) (Placed Like (p ∷ ps)) ps (λ o a. inr a) (among_itself ps h.1))

itself : (x : Value-F Value) → Parts Itself x → Yes (same x x)
itself v.Nil h = refl
itself (v.Truth b) h = int_itself (number_of b)
itself (v.Int n) h = int_itself n
itself (v.Text s) h = text_itself s
itself (v.Tuple xs) h = all_itself xs h
itself (v.List xs) h = all_itself xs h
itself (v.Dict ps) h = dict_of ps ps refl (among_itself ps h)

pub reflexive : (a : Value) → Yes (equal a a)
reflexive = induct Itself (λ x h. rolled x x ∙ itself x h)

-- ---- transitive

abbrev Passes : Value → Type 0
Passes a = (b c : Value) → Yes (equal a b) → Yes (equal b c) → Yes (equal a c)

all_pass : (xs : List Value) → AllByRecursion Passes xs → (ys zs : List Value) → Yes (equal_all xs ys) → Yes (equal_all ys zs) → Yes (equal_all xs zs)
all_pass [] h [] [] e f = refl
all_pass [] h [] (z ∷ zs) e f = no_yes f
all_pass [] h (y ∷ ys) zs e f = no_yes e
all_pass (x ∷ xs) h [] zs e f = no_yes e
all_pass (x ∷ xs) h (y ∷ ys) [] e f = no_yes f
all_pass (x ∷ xs) h (y ∷ ys) (z ∷ zs) e f =
    both (equal x z) (equal_all xs zs)
    (h.0 y z (first (equal x y) (equal_all xs ys) e) (first (equal y z) (equal_all ys zs) f))
    (all_pass xs h.1 ys zs (second (equal x y) (equal_all xs ys) e) (second (equal y z) (equal_all ys zs) f))

any_passes : (p : Pair) → Passes p.0 × Passes p.1 → (q : Pair) (rs : List Pair) → Like p q → Any (Like q) rs → Any (Like p) rs
any_passes p h q [] l a = absurd a
any_passes p h q (r ∷ rs) l (inl m) = inl (h.0 q.0 r.0 l.0 m.0, h.1 q.1 r.1 l.1 m.1)
any_passes p h q (r ∷ rs) l (inr a) = inr (any_passes p h q rs l a)

pairs_pass : (ps : List Pair) → AllByRecursion {X = Pair} (λ p. Passes p.0 × Passes p.1) ps → (qs rs : List Pair) → AllByRecursion (Placed Like qs) ps → AllByRecursion (Placed Like rs) qs → AllByRecursion (Placed Like rs) ps
pairs_pass [] h qs rs e f = tt
pairs_pass (p ∷ ps) h qs rs e f = (any_meets (Like p) (Placed Like rs) qs (λ q l a. any_passes p h.0 q rs l a) e.0 f, pairs_pass ps h.1 qs rs e.1 f)

along : (k m n : ℤ) → Yes (int_eq k m) → Yes (int_eq m n) → Yes (int_eq k n)
along k m n e f = subst (λ (j : ℤ). Yes (int_eq j n)) (sym (int_same k m e)) f

passes : (x : Value-F Value) → Parts Passes x → (y z : Value-F Value) → Yes (same x y) → Yes (same y z) → Yes (same x z)
passes v.Nil h v.Nil v.Nil e f = refl
passes (v.Truth a) h (v.Truth b) (v.Truth c) e f = along (number_of a) (number_of b) (number_of c) e f
passes (v.Truth a) h (v.Truth b) (v.Int n) e f = along (number_of a) (number_of b) n e f
passes (v.Truth a) h (v.Int m) (v.Truth c) e f = along (number_of a) m (number_of c) e f
passes (v.Truth a) h (v.Int m) (v.Int n) e f = along (number_of a) m n e f
passes (v.Int k) h (v.Truth b) (v.Truth c) e f = along k (number_of b) (number_of c) e f
passes (v.Int k) h (v.Truth b) (v.Int n) e f = along k (number_of b) n e f
passes (v.Int k) h (v.Int m) (v.Truth c) e f = along k m (number_of c) e f
passes (v.Int k) h (v.Int m) (v.Int n) e f = along k m n e f
passes (v.Text s) h (v.Text t) (v.Text u) e f = subst (λ (w : List ℕ). Yes (same_text w u)) (sym (text_same s t e)) f
passes (v.Tuple xs) h (v.Tuple ys) (v.Tuple zs) e f = all_pass xs h ys zs e f
passes (v.List xs) h (v.List ys) (v.List zs) e f = all_pass xs h ys zs e f
passes (v.Dict ps) h (v.Dict qs) (v.Dict rs) e f =
    dict_of ps rs (as_long ps qs e ∙ as_long qs rs f) (pairs_pass ps h qs rs (placed_of ps qs e) (placed_of qs rs f))
passes v.Nil h v.Nil z e f = no_yes f
passes (v.Truth a) h (v.Truth b) z e f = no_yes f
passes (v.Truth a) h (v.Int b) z e f = no_yes f
passes (v.Int a) h (v.Truth b) z e f = no_yes f
passes (v.Int a) h (v.Int b) z e f = no_yes f
passes (v.Text s) h (v.Text t) z e f = no_yes f
passes (v.Tuple xs) h (v.Tuple ys) z e f = no_yes f
passes (v.List xs) h (v.List ys) z e f = no_yes f
passes (v.Dict ps) h (v.Dict qs) z e f = no_yes f
passes _ h _ _ e f = no_yes e

pub transitive : (a b c : Value) → Yes (equal a b) → Yes (equal b c) → Yes (equal a c)
transitive = induct Passes (λ x h. by_layer (λ b. (c : Value) → Yes (equal (roll-Value x) b) → Yes (equal b c) → Yes (equal (roll-Value x) c))
    (λ y. by_layer (λ c. Yes (equal (roll-Value x) (roll-Value y)) → Yes (equal (roll-Value y) c) → Yes (equal (roll-Value x) c))
    (λ z e f. rolled x z ∙ passes x h y z (sym (rolled x y) ∙ e) (sym (rolled y z) ∙ f))))

-- ---- symmetric

abbrev pair_keys : List Pair → List Value
pair_keys ps = told_keys (told_of ps)

abbrev hashable_keys : List Pair → Bool
hashable_keys ps = list_all hashable (pair_keys ps)

abbrev Turns : Value → Type 0
Turns a = Yes (keyed a) → (b : Value) → Yes (equal a b) → Yes (equal b a)

all_turn : (xs : List Value) → AllByRecursion Turns xs → Yes (keyed_all xs) → (ys : List Value) → Yes (equal_all xs ys) → Yes (equal_all ys xs)
all_turn [] h k [] e = refl
all_turn [] h k (y ∷ ys) e = no_yes e
all_turn (x ∷ xs) h k [] e = no_yes e
all_turn (x ∷ xs) h k (y ∷ ys) e =
    both (equal y x) (equal_all ys xs)
    (h.0 (first (keyed x) (keyed_all xs) k) y (first (equal x y) (equal_all xs ys) e))
    (all_turn xs h.1 (second (keyed x) (keyed_all xs) k) ys (second (equal x y) (equal_all xs ys) e))

abbrev Turn : Pair → Type 0
Turn p = (q : Pair) → Like p q → Like q p

-- what the parts of a dictionary have, as the pairs have it
turns_of : (ps : List Pair) → AllByRecursion {X = Pair} (λ p. Turns p.0 × Turns p.1) ps → Yes (keyed_pairs ps) → AllByRecursion Turn ps
turns_of [] h k = tt
turns_of (p ∷ ps) h k =
    let here = first (keyed p.0 && keyed p.1) (keyed_pairs ps) k in
    ((λ q l. (h.0.0 (first (keyed p.0) (keyed p.1) here) q.0 l.0, h.0.1 (second (keyed p.0) (keyed p.1) here) q.1 l.1)), turns_of ps h.1 (second (keyed p.0 && keyed p.1) (keyed_pairs ps) k))

-- two pairs of unequal keys are like no one pair
no_share : (p : Pair) (ps : List Pair) → AllByRecursion Turn ps → Yes (not (list_any (equal p.0) (pair_keys ps))) → AllByRecursion (NoneShared Like p) ps
no_share p [] h n = tt
no_share p (o ∷ ps) h n = go (equal p.0 o.0) (λ q l m. transitive p.0 q.0 o.0 l.0 (h.0 q m).0) (no_share p ps h.1) n
  where
    go : (b : Bool) → ((q : Pair) → Like p q → Like o q → Yes b) → (Yes (not (list_any (equal p.0) (pair_keys ps))) → AllByRecursion (NoneShared Like p) ps) → Yes (not (b || list_any (equal p.0) (pair_keys ps))) → NoneShared Like p o × AllByRecursion (NoneShared Like p) ps
    go true f rest k = no_yes k
    go false f rest k = ((λ q l m. no_yes (f q l m)), rest k)

apart_of : (ps : List Pair) → AllByRecursion Turn ps → Yes (distinct (pair_keys ps)) → Apart Like ps
apart_of [] h d = tt
apart_of (p ∷ ps) h d =
    (no_share p ps h.1 (first (not (list_any (equal p.0) (pair_keys ps))) (distinct (pair_keys ps)) d), apart_of ps h.1 (second (not (list_any (equal p.0) (pair_keys ps))) (distinct (pair_keys ps)) d))

back_any : (q : Pair) (ps : List Pair) → AllByRecursion Turn ps → Had Like ps q → Placed Like ps q
back_any q ps h a = any_both (λ p. Like p q) Turn (Like q) ps (λ p l t. t q l) a h

pairs_turn : (ps : List Pair) → AllByRecursion {X = Pair} (λ p. Turns p.0 × Turns p.1) ps → Yes (keyed_layer (v.Dict ps)) → (qs : List Pair) → length ps ≡ length qs → AllByRecursion (Placed Like qs) ps → AllByRecursion (Placed Like ps) qs
pairs_turn ps h k qs long e =
    let turns = turns_of ps h (first (keyed_pairs ps) (hashable_keys ps && distinct (pair_keys ps)) k) in
    let apart = apart_of ps turns (second (hashable_keys ps) (distinct (pair_keys ps)) (second (keyed_pairs ps) (hashable_keys ps && distinct (pair_keys ps)) k)) in
    each_map (Had Like ps) (Placed Like ps) qs (λ q a. back_any q ps turns a) (covered Like ps qs long apart e)

about : (m n : ℤ) → Yes (int_eq m n) → Yes (int_eq n m)
about m n e = subst (λ (j : ℤ). Yes (int_eq n j)) (sym (int_same m n e)) (int_itself n)

turn : (x : Value-F Value) → Parts Turns x → Yes (keyed_layer x) → (y : Value-F Value) → Yes (same x y) → Yes (same y x)
turn v.Nil h k v.Nil e = refl
turn (v.Truth a) h k (v.Truth b) e = about (number_of a) (number_of b) e
turn (v.Truth a) h k (v.Int n) e = about (number_of a) n e
turn (v.Int m) h k (v.Truth b) e = about m (number_of b) e
turn (v.Int m) h k (v.Int n) e = about m n e
turn (v.Text s) h k (v.Text t) e = subst (λ (w : List ℕ). Yes (same_text t w)) (sym (text_same s t e)) (text_itself t)
turn (v.Tuple xs) h k (v.Tuple ys) e = all_turn xs h k ys e
turn (v.List xs) h k (v.List ys) e = all_turn xs h k ys e
turn (v.Dict ps) h k (v.Dict qs) e =
    let long : length ps ≡ length qs = as_long ps qs e in
    dict_of qs ps (sym long) (pairs_turn ps h k qs long (placed_of ps qs e))
turn _ h k _ e = no_yes e

pub symmetric : (a : Value) → Yes (keyed a) → (b : Value) → Yes (equal a b) → Yes (equal b a)
symmetric = induct Turns (λ x h k. by_layer (λ b. Yes (equal (roll-Value x) b) → Yes (equal b (roll-Value x)))
    (λ y e. rolled y x ∙ turn x h (sym (keyed_rolled x) ∙ k) y (sym (rolled x y) ∙ e)))
