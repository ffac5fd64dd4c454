-- A value is valid where it is within the limits and its parts are valid.
use Rattle.std.proofs.Common.{◌≡◌, ◌<◌, ◌&&◌, ℕ, Bool, List, [], ◌∷◌, map, nat_le, refl, sym, ap, subst, ◌∙◌, arith}
use Rattle.std.specs.List.{AllByRecursion, list_all}
use Rattle.std.proofs.lemmas.Bool.Decides.{nat_tests}
use Rattle.tx_values.specs.declared.value.Value.{Value, out-Value, roll-Value, out-roll-Value, map-Value, fold-roll-Value}
use Rattle.tx_values.specs.declared.value.Value.TheOpen.{Value-F}
use Rattle.tx_values.specs.declared.value.Value.TheOpen as v
use Rattle.tx_values.specs.Limits.{weight, depth, in_limits}
use Rattle.tx_values.specs.Valid.{Parts, distinct, hashable, keyed, ranged, ranged_step, told_keys, told_pairs, valid}
use Rattle.tx_values.specs.Laws.{ValidLaw, is_sound}
use Rattle.tx_values.proofs.KeyedLayers.{keyed_all, keyed_layer, keyed_rolled, told_of}
use Rattle.tx_values.proofs.Induction.{by_layer}
use Rattle.tx_values.proofs.EqualityLemmas.{Yes, both, first, second}
use Rattle.tx_values.proofs.PartsAreLess.{parts_within}

abbrev Pair : Type 0
Pair = Value × Value

abbrev Valid : Value → Type 0
Valid a = Yes (valid a)

abbrev InLimits : Value → Type 0
InLimits a = Yes (in_limits a)

valid_of : (a : Value) → InLimits a → Yes (ranged a) → Yes (keyed a) → Valid a
valid_of a l r k = both (in_limits a) (ranged a && keyed a) l (both (ranged a) (keyed a) r k)

limits_of : (a : Value) → Valid a → InLimits a
limits_of a h = first (in_limits a) (ranged a && keyed a) h

ranged_of : (a : Value) → Valid a → Yes (ranged a)
ranged_of a h = first (ranged a) (keyed a) (second (in_limits a) (ranged a && keyed a) h)

keyed_of : (a : Value) → Valid a → Yes (keyed a)
keyed_of a h = second (ranged a) (keyed a) (second (in_limits a) (ranged a && keyed a) h)

-- ---- the fold of ranges, a layer at a time

abbrev ranged_layer : Value-F Value → Bool
ranged_layer x = ranged_step (map-Value Value Bool ranged x)

ranged_rolled : (x : Value-F Value) → ranged (roll-Value x) ≡ ranged_layer x
ranged_rolled x = fold-roll-Value Bool ranged_step x

-- ---- lists of items and of pairs

abbrev ranged_all : List Value → Bool
ranged_all xs = list_all (λ b. b) (map ranged xs)

abbrev ranged_pairs : List Pair → Bool
ranged_pairs ps = list_all {X = Bool × Bool} (λ p. p.0 && p.1) (map (λ p. (ranged p.0, ranged p.1)) ps)

items_valid : (xs : List Value) → AllByRecursion InLimits xs → Yes (ranged_all xs) → Yes (keyed_all xs) → AllByRecursion Valid xs
items_valid [] l r k = tt
items_valid (x ∷ xs) l r k = (
  valid_of x l.0 (first (ranged x) (ranged_all xs) r) (first (keyed x) (keyed_all xs) k),
  items_valid xs l.1 (second (ranged x) (ranged_all xs) r) (second (keyed x) (keyed_all xs) k),
)

pairs_valid : (ps : List Pair) → AllByRecursion {X = Pair} (λ p. InLimits p.0 × InLimits p.1) ps → Yes (ranged_pairs ps) → Yes (told_pairs (told_of ps)) → AllByRecursion {X = Pair} (λ p. Valid p.0 × Valid p.1) ps
pairs_valid [] l r k = tt
pairs_valid (p ∷ ps) l r k =
    let here = first (ranged p.0 && ranged p.1) (ranged_pairs ps) r in
    let told = first (keyed p.0 && keyed p.1) (told_pairs (told_of ps)) k in (
      (
        valid_of p.0 l.0.0 (first (ranged p.0) (ranged p.1) here) (first (keyed p.0) (keyed p.1) told),
        valid_of p.1 l.0.1 (second (ranged p.0) (ranged p.1) here) (second (keyed p.0) (keyed p.1) told),
      ),
      pairs_valid ps l.1 (second (ranged p.0 && ranged p.1) (ranged_pairs ps) r) (second (keyed p.0 && keyed p.1) (told_pairs (told_of ps)) k),
    )

items_ranged : (xs : List Value) → AllByRecursion Valid xs → Yes (ranged_all xs)
items_ranged [] h = refl
items_ranged (x ∷ xs) h = both (ranged x) (ranged_all xs) (ranged_of x h.0) (items_ranged xs h.1)

items_keyed : (xs : List Value) → AllByRecursion Valid xs → Yes (keyed_all xs)
items_keyed [] h = refl
items_keyed (x ∷ xs) h = both (keyed x) (keyed_all xs) (keyed_of x h.0) (items_keyed xs h.1)

pairs_ranged : (ps : List Pair) → AllByRecursion {X = Pair} (λ p. Valid p.0 × Valid p.1) ps → Yes (ranged_pairs ps)
pairs_ranged [] h = refl
pairs_ranged (p ∷ ps) h = both (ranged p.0 && ranged p.1) (ranged_pairs ps) (both (ranged p.0) (ranged p.1) (ranged_of p.0 h.0.0) (ranged_of p.1 h.0.1)) (pairs_ranged ps h.1)

pairs_keyed : (ps : List Pair) → AllByRecursion {X = Pair} (λ p. Valid p.0 × Valid p.1) ps → Yes (told_pairs (told_of ps))
pairs_keyed [] h = refl
pairs_keyed (p ∷ ps) h = both (keyed p.0 && keyed p.1) (told_pairs (told_of ps)) (both (keyed p.0) (keyed p.1) (keyed_of p.0 h.0.0) (keyed_of p.1 h.0.1)) (pairs_keyed ps h.1)

keys_told : (ps : List Pair) → told_keys (told_of ps) ≡ map (λ p. p.0) ps
keys_told [] = refl
keys_told (p ∷ ps) = ap (λ ks. p.0 ∷ ks) (keys_told ps)

abbrev sound_keys : List Value → Bool
sound_keys ks = list_all hashable ks && distinct ks

-- ---- a layer

parts_valid : (x : Value-F Value) → Parts InLimits x → Yes (ranged_layer x) → Yes (keyed_layer x) → Parts Valid x
parts_valid (v.Tuple xs) l r k = items_valid xs l r k
parts_valid (v.List xs) l r k = items_valid xs l r k
parts_valid (v.Dict ps) l r k = pairs_valid ps l r (first (told_pairs (told_of ps)) (sound_keys (told_keys (told_of ps))) k)
parts_valid v.Nil l r k = tt
parts_valid (v.Truth b) l r k = tt
parts_valid (v.Int n) l r k = tt
parts_valid (v.Text s) l r k = tt

sound : (x : Value-F Value) → Yes (ranged_layer x) → Yes (keyed_layer x) → Yes (is_sound x)
sound (v.Int n) r k = r
sound (v.Dict ps) r k = subst (λ (ks : List Value). Yes (sound_keys ks)) (keys_told ps) (second (told_pairs (told_of ps)) (sound_keys (told_keys (told_of ps))) k)
sound (v.Tuple xs) r k = refl
sound (v.List xs) r k = refl
sound v.Nil r k = refl
sound (v.Truth b) r k = refl
sound (v.Text s) r k = r

layer_ranged : (x : Value-F Value) → Yes (is_sound x) → Parts Valid x → Yes (ranged_layer x)
layer_ranged (v.Int n) s h = s
layer_ranged (v.Tuple xs) s h = items_ranged xs h
layer_ranged (v.List xs) s h = items_ranged xs h
layer_ranged (v.Dict ps) s h = pairs_ranged ps h
layer_ranged v.Nil s h = refl
layer_ranged (v.Truth b) s h = refl
layer_ranged (v.Text t) s h = s

layer_keyed : (x : Value-F Value) → Yes (is_sound x) → Parts Valid x → Yes (keyed_layer x)
layer_keyed (v.Tuple xs) s h = items_keyed xs h
layer_keyed (v.List xs) s h = items_keyed xs h
layer_keyed (v.Dict ps) s h = both (told_pairs (told_of ps)) (sound_keys (told_keys (told_of ps))) (pairs_keyed ps h) (subst (λ (ks : List Value). Yes (sound_keys ks)) (sym (keys_told ps)) s)
layer_keyed v.Nil s h = refl
layer_keyed (v.Truth b) s h = refl
layer_keyed (v.Int n) s h = refl
layer_keyed (v.Text t) s h = refl

-- ---- parts are within the limits

down : (w u d e : ℕ) → w < u → d < e → Yes (nat_le u 1048576 && nat_le e 16) → Yes (nat_le w 1048576 && nat_le d 16)
down w u d e h k l = grind (arith, nat_tests)

module _ (a : Value) (l : InLimits a) where
  abbrev Less : Value → Type 0
  Less x = (weight x < weight a) × (depth x < depth a)

  one_down : (x : Value) → Less x → InLimits x
  one_down x h = down (weight x) (weight a) (depth x) (depth a) h.0 h.1 l

  items_down : (xs : List Value) → AllByRecursion Less xs → AllByRecursion InLimits xs
  items_down [] h = tt
  items_down (x ∷ xs) h = (one_down x h.0, items_down xs h.1)

  pairs_down : (ps : List Pair) → AllByRecursion {X = Pair} (λ p. Less p.0 × Less p.1) ps → AllByRecursion {X = Pair} (λ p. InLimits p.0 × InLimits p.1) ps
  pairs_down [] h = tt
  pairs_down (p ∷ ps) h = ((one_down p.0 h.0.0, one_down p.1 h.0.1), pairs_down ps h.1)

  parts_down : (x : Value-F Value) → Parts Less x → Parts InLimits x
  parts_down (v.Tuple xs) h = items_down xs h
  parts_down (v.List xs) h = items_down xs h
  parts_down (v.Dict ps) h = pairs_down ps h
  parts_down v.Nil h = tt
  parts_down (v.Truth b) h = tt
  parts_down (v.Int n) h = tt
  parts_down (v.Text s) h = tt

-- ---- the law

abbrev ByParts : Value → Value-F Value → Type 0
ByParts a x = InLimits a × Yes (is_sound x) × Parts Valid x

forth : (x : Value-F Value) → Valid (roll-Value x) → ByParts (roll-Value x) x
forth x h =
    let l = limits_of (roll-Value x) h in
    let r = sym (ranged_rolled x) ∙ ranged_of (roll-Value x) h in
    let k = sym (keyed_rolled x) ∙ keyed_of (roll-Value x) h in
    let within = subst (Parts (Less (roll-Value x) l)) (out-roll-Value x) (parts_within (roll-Value x)) in
    (l, sound x r k, parts_valid x (parts_down (roll-Value x) l x within) r k)

back : (x : Value-F Value) → ByParts (roll-Value x) x → Valid (roll-Value x)
back x h =
    let r = layer_ranged x h.1 h.2 in
    let k = layer_keyed x h.1 h.2 in
    valid_of (roll-Value x) h.0 (ranged_rolled x ∙ r) (keyed_rolled x ∙ k)

pub by_parts : ValidLaw
by_parts = by_layer (λ a. (Valid a → ByParts a (out-Value a)) × (ByParts a (out-Value a) → Valid a))
    (λ x. (λ h. subst (ByParts (roll-Value x)) (sym (out-roll-Value x)) (forth x h), λ h. back x (subst (ByParts (roll-Value x)) (out-roll-Value x) h)))
