-- What makes a value valid, and what is known of the parts of one.
use Rattle.std.proofs.Common.{◌≡◌, ◌∙◌, ℕ, ◌&&◌, ◌||◌, ◌++◌, Bool, true, false, not, nat_le, List, [], ◌∷◌, map, Some, Ok, Err, refl, sym, ap, subst, if◌then◌else◌}
use Rattle.std.specs.List.{AllByRecursion, list_all, list_any}
use Rattle.std.proofs.lemmas.Bool.{true≢false}
use Rattle.tx_base.specs.declared.class.Class.TheVariants.{ProfileError, TypeError}
use Rattle.tx_values.specs.declared.value.Value.{Value, out-Value, roll-Value, out-roll-Value, map-Value, fold-roll-Value}
use Rattle.tx_values.specs.declared.value.Value.TheVariants.{rolls-Nil, rolls-Truth, rolls-Tuple, rolls-List, rolls-Dict}
use Rattle.tx_values.specs.declared.value.Value.TheVariants as value
use Rattle.tx_values.specs.declared.value.Value.TheOpen.{Value-F}
use Rattle.tx_values.specs.declared.value.Value.TheOpen as v
use Rattle.tx_values.specs.Answer.{Answer, ◌>>=◌}
use Rattle.tx_values.specs.Equality.{equal}
use Rattle.tx_values.specs.Laws.{ValidLaw, SymmetricLaw, is_sound}
use Rattle.tx_values.specs.Limits.{depth, depth_step, in_limits, made, most_weight, weight, weight_step}
use Rattle.tx_values.specs.Valid.{Parts, distinct, hashable, keyed, ranged}
use Rattle.tx_methods.specs.Laws.{AreValid, IsValid}
use Rattle.tx_meaning.specs.Containers.{enter, entered, longer}
use Rattle.tx_meaning.proofs.Holds.{Holds, given, raised, go}
use Rattle.tx_meaning.proofs.Tests.{left, right}

abbrev pub PairsValid : List (Value × Value) → Type 0
PairsValid pairs = AllByRecursion {X = Value × Value} (λ p. IsValid p.0 × IsValid p.1) pairs

abbrev pub keys : List (Value × Value) → List Value
keys pairs = map (λ p. p.0) pairs

-- pairs that a dictionary may hold
pub record AreEntries (pairs : List (Value × Value)) : Type 0 where
  pub parts : PairsValid pairs
  pub with_hashes : list_all hashable (keys pairs) ≡ true
  pub apart : distinct (keys pairs) ≡ true

opened : (x : Value-F Value) (a : Value) → roll-Value x ≡ a → out-Value a ≡ x
opened x a e = ap out-Value (sym e) ∙ out-roll-Value x

-- ---- one more pair is entered

and_both : {a b : Bool} → a ≡ true → b ≡ true → (a && b) ≡ true
and_both {a = a} {b = b} h k = ap (λ c. c && b) h ∙ k

neither : {a b : Bool} → a ≡ false → b ≡ false → (a || b) ≡ false
neither {a = a} {b = b} h k = ap (λ c. c || b) h ∙ k

left_or : {a : Bool} (b : Bool) → (a || b) ≡ false → a ≡ false
left_or {a = true} b h = h
left_or {a = false} b h = refl

right_or : (a : Bool) {b : Bool} → (a || b) ≡ false → b ≡ false
right_or true h = absurd (true≢false h)
right_or false h = h

is_not : (b : Bool) → not b ≡ true → b ≡ false
is_not true h = absurd (true≢false (sym h))
is_not false h = refl

enter_valid : (key new : Value) → IsValid key → IsValid new → (ps : List (Value × Value)) → PairsValid ps → PairsValid (enter key new ps)
enter_valid key new a b [] h = ((a, b), tt)
enter_valid key new a b (p ∷ ps) h = by_test (equal key p.0) (enter_valid key new a b ps h.1)
  where
    by_test : (c : Bool) → PairsValid (enter key new ps) → PairsValid (if c then (p.0, new) ∷ ps else p ∷ enter key new ps)
    by_test true r = ((h.0.0, b), h.1)
    by_test false r = (h.0, r)

enter_hashable : (key new : Value) → hashable key ≡ true → (ps : List (Value × Value)) → list_all hashable (keys ps) ≡ true → list_all hashable (keys (enter key new ps)) ≡ true
enter_hashable key new a [] h = and_both a refl
enter_hashable key new a (p ∷ ps) h = by_test (equal key p.0) (enter_hashable key new a ps (right (hashable p.0) h))
  where
    by_test : (c : Bool) → list_all hashable (keys (enter key new ps)) ≡ true → list_all hashable (keys (if c then (p.0, new) ∷ ps else p ∷ enter key new ps)) ≡ true
    by_test true r = h
    by_test false r = and_both (left (list_all hashable (keys ps)) h) r

-- a key that is equal to none of them, nor to the new one
enter_other : (k key new : Value) (ps : List (Value × Value)) → equal k key ≡ false → list_any (equal k) (keys ps) ≡ false → list_any (equal k) (keys (enter key new ps)) ≡ false
enter_other k key new [] e h = neither e refl
enter_other k key new (p ∷ ps) e h = by_test (equal key p.0) (enter_other k key new ps e (right_or (equal k p.0) h))
  where
    by_test : (c : Bool) → list_any (equal k) (keys (enter key new ps)) ≡ false → list_any (equal k) (keys (if c then (p.0, new) ∷ ps else p ∷ enter key new ps)) ≡ false
    by_test true r = h
    by_test false r = neither (left_or (list_any (equal k) (keys ps)) h) r

module _ (law : ValidLaw) (symmetric : SymmetricLaw) where
  -- ---- values

  sound_of : (a : Value) → IsValid a → is_sound (out-Value a) ≡ true
  sound_of a h = ((law a).0 h).1

  parts_of : (a : Value) → IsValid a → Parts IsValid (out-Value a)
  parts_of a h = ((law a).0 h).2

  keyed_of : (a : Value) → IsValid a → keyed a ≡ true
  keyed_of a h = right (ranged a) (right (in_limits a) h)

  rolled : (x : Value-F Value) (a : Value) → roll-Value x ≡ a → in_limits a ≡ true → is_sound x ≡ true → Parts IsValid x → IsValid a
  rolled x a e l s h =
      (law a).1
      (l, subst (λ (y : Value-F Value). is_sound y ≡ true) (sym (opened x a e)) s, subst (λ (y : Value-F Value). Parts IsValid y) (sym (opened x a e)) h)

  -- a value that weighs nothing
  light : (x : Value-F Value) (a : Value) → roll-Value x ≡ a → (nat_le (weight_step (map-Value Value ℕ weight x)) most_weight && nat_le (depth_step (map-Value Value ℕ depth x)) 16) ≡ true
      → is_sound x ≡ true → Parts IsValid x → IsValid a
  light x a e l =
      rolled x a e
      (ap (λ w. nat_le w most_weight && nat_le (depth a) 16) (ap weight (sym e) ∙ fold-roll-Value ℕ weight_step x)
      ∙ ap (λ d. nat_le (weight_step (map-Value Value ℕ weight x)) most_weight && nat_le d 16) (ap depth (sym e) ∙ fold-roll-Value ℕ depth_step x)
      ∙ l)

  pub nil_valid : IsValid value.Nil
  nil_valid = light v.Nil value.Nil rolls-Nil refl refl tt

  pub truth_valid : (b : Bool) → IsValid (value.Truth b)
  truth_valid b = light (v.Truth b) (value.Truth b) (rolls-Truth b) refl refl tt

  pub nothing_valid : IsValid (value.List [])
  nothing_valid = light (v.List []) (value.List []) (rolls-List []) refl refl tt

  -- ---- what is made of valid parts

  made_valid : (x : Value-F Value) (a : Value) → roll-Value x ≡ a → is_sound x ≡ true → Parts IsValid x → Holds IsValid (made a)
  made_valid x a e s h = by_limits (in_limits a) refl
    where
      by_limits : (b : Bool) → in_limits a ≡ b → Holds IsValid (if b then Ok a else Err ProfileError)
      by_limits true l = given (rolled x a e l s h)
      by_limits false l = raised

  pub tuple_valid : (items : List Value) → AreValid items → Holds IsValid (made (value.Tuple items))
  tuple_valid items h = made_valid (v.Tuple items) (value.Tuple items) (rolls-Tuple items) refl h

  pub list_valid : (items : List Value) → AreValid items → Holds IsValid (made (value.List items))
  list_valid items h = made_valid (v.List items) (value.List items) (rolls-List items) refl h

  pub dict_valid : (pairs : List (Value × Value)) → AreEntries pairs → Holds IsValid (made (value.Dict pairs))
  dict_valid pairs h = made_valid (v.Dict pairs) (value.Dict pairs) (rolls-Dict pairs) (and_both h.with_hashes h.apart) h.parts

  -- ---- the items of a list, and one more

  pub items_of : (items : List Value) → IsValid (value.List items) → AreValid items
  items_of items h = subst (λ (y : Value-F Value). Parts IsValid y) (opened (v.List items) (value.List items) (rolls-List items)) (parts_of (value.List items) h)

  all_more : (xs : List Value) (x : Value) → AreValid xs → IsValid x → AreValid (xs ++ x ∷ [])
  all_more [] x h k = (k, tt)
  all_more (y ∷ xs) x h k = (h.0, all_more xs x h.1 k)

  pub longer_valid : (items : List Value) (x : Value) → IsValid (value.List items) → IsValid x → Holds (λ all. IsValid (value.List all)) (longer items x)
  unfolding longer
  longer_valid items x h k = by_limits (in_limits (value.List (items ++ x ∷ []))) refl
    where
      by_limits : (b : Bool) → in_limits (value.List (items ++ x ∷ [])) ≡ b → Holds (λ all. IsValid (value.List all)) ((if b then Ok (value.List (items ++ x ∷ [])) else Err ProfileError) >>= (λ all. Ok (items ++ x ∷ [])))
      by_limits true l = given (rolled (v.List (items ++ x ∷ [])) (value.List (items ++ x ∷ [])) (rolls-List (items ++ x ∷ [])) l refl (all_more items x (items_of items h) k))
      by_limits false l = raised

  -- ---- the pairs of a dictionary

  turned : (a b : Value) → IsValid b → equal a b ≡ false → equal b a ≡ false
  turned a b h e = by_test (equal b a) refl
    where
      by_test : (c : Bool) → equal b a ≡ c → c ≡ false
      by_test true f = absurd (true≢false (sym (symmetric b a (keyed_of b h) f) ∙ e))
      by_test false f = refl

  enter_distinct : (key new : Value) (ps : List (Value × Value)) → PairsValid ps → distinct (keys ps) ≡ true → distinct (keys (enter key new ps)) ≡ true
  enter_distinct key new [] h d = refl
  enter_distinct key new (p ∷ ps) h d = by_test (equal key p.0) refl (enter_distinct key new ps h.1 (right (not (list_any (equal p.0) (keys ps))) d))
    where
      by_test : (c : Bool) → equal key p.0 ≡ c → distinct (keys (enter key new ps)) ≡ true → distinct (keys (if c then (p.0, new) ∷ ps else p ∷ enter key new ps)) ≡ true
      by_test true e r = d
      by_test false e r = and_both (ap not (enter_other p.0 key new ps (turned key p.0 h.0.0 e) (is_not (list_any (equal p.0) (keys ps)) (left (distinct (keys ps)) d)))) r

  pub no_entries : AreEntries []
  no_entries = record { parts = tt; with_hashes = refl; apart = refl }

  pub entered_valid : (entries pairs : List (Value × Value)) → AreEntries entries → PairsValid pairs → Holds AreEntries (entered entries pairs)
  entered_valid entries [] h k = given h
  entered_valid entries (p ∷ pairs) h k = by_test (hashable p.0) refl (λ a. entered_valid (enter p.0 p.1 entries) pairs a k.1)
    where
      by_test : (c : Bool) → hashable p.0 ≡ c → (AreEntries (enter p.0 p.1 entries) → Holds AreEntries (entered (enter p.0 p.1 entries) pairs)) → Holds AreEntries (if c then entered (enter p.0 p.1 entries) pairs else Err TypeError)
      by_test true e r = r (record { parts = enter_valid p.0 p.1 k.0.0 k.0.1 entries h.parts; with_hashes = enter_hashable p.0 p.1 e entries h.with_hashes; apart = enter_distinct p.0 p.1 entries h.parts h.apart })
      by_test false e r = raised
