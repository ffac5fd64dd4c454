-- No key begins another, so keys are equal exactly where values are.
use Rattle.std.proofs.Common.{◌≡◌, ◌++◌, ℕ, ℤ, suc, Bool, List, [], ◌∷◌, length, map, refl, sym, ap, subst, ◌∙◌, append_assoc}
use Rattle.std.proofs.Math.Nat.{suc_inj}
use Rattle.std.specs.List.{AllByRecursion}
use Rattle.std.specs.Ordering.{int_eq}
use Rattle.std.proofs.lemmas.Bool.Decides.{same_from_decides}
use Rattle.tx_values.specs.declared.value.Value.{Value, roll-Value, map-Value, fold-roll-Value}
use Rattle.tx_values.specs.declared.value.Value.TheOpen.{Value-F}
use Rattle.tx_values.specs.declared.value.Value.TheOpen as v
use Rattle.tx_values.specs.declared.key.Atom.{Atom}
use Rattle.tx_values.specs.declared.key.Atom.TheVariants as atom
use Rattle.tx_values.specs.Equality.{equal, number_of, same_text}
use Rattle.tx_values.specs.Calls.Lists.{equal_all, hashable_all, keys_of}
use Rattle.tx_values.specs.Valid.{Parts, hashable, hashable_step}
use Rattle.tx_values.specs.Keys.{key_of, key_step, key_input, same_key}
use Rattle.tx_values.specs.Calls.KeyLaws.{key_decides}
use Rattle.tx_values.proofs.Induction.{induct, by_layer}
use Rattle.tx_values.proofs.EqualityLemmas.{Yes, both, first, second, no_yes, int_same, int_itself, text_same, text_itself, same, rolled}

-- ---- a layer's key, and whether it is hashable

abbrev layer_key : Value-F Value → List Atom
layer_key x = key_step (map-Value Value (List Atom) key_of x)

abbrev layer_hashable : Value-F Value → Bool
layer_hashable x = hashable_step (map-Value Value Bool hashable x)

key_rolled : (x : Value-F Value) → key_of (roll-Value x) ≡ layer_key x
key_rolled x = fold-roll-Value (List Atom) key_step x

hashable_rolled : (x : Value-F Value) → hashable (roll-Value x) ≡ layer_hashable x
hashable_rolled x = fold-roll-Value Bool hashable_step x

-- ---- equal values have one key

abbrev OneKey : Value → Type 0
OneKey a = Yes (hashable a) → (b : Value) → Yes (equal a b) → key_of a ≡ key_of b

all_one : (xs : List Value) → AllByRecursion OneKey xs → Yes (hashable_all xs) → (ys : List Value) → Yes (equal_all xs ys) → (length (map key_of xs) ≡ length (map key_of ys)) × (keys_of xs ≡ keys_of ys)
all_one [] h k [] e = (refl, refl)
all_one [] h k (y ∷ ys) e = no_yes e
all_one (x ∷ xs) h k [] e = no_yes e
all_one (x ∷ xs) h k (y ∷ ys) e =
    let here = h.0 (first (hashable x) (hashable_all xs) k) y (first (equal x y) (equal_all xs ys) e) in
    let rest = all_one xs h.1 (second (hashable x) (hashable_all xs) k) ys (second (equal x y) (equal_all xs ys) e) in
    (ap suc rest.0, ap (λ c. c ++ keys_of xs) here ∙ ap (λ c. key_of y ++ c) rest.1)

one_key : (x : Value-F Value) → Parts OneKey x → Yes (layer_hashable x) → (y : Value-F Value) → Yes (same x y) → layer_key x ≡ layer_key y
one_key v.Nil h k v.Nil e = refl
one_key (v.Truth a) h k (v.Truth b) e = ap (λ n. atom.Int n ∷ []) (int_same (number_of a) (number_of b) e)
one_key (v.Truth a) h k (v.Int n) e = ap (λ n. atom.Int n ∷ []) (int_same (number_of a) n e)
one_key (v.Int m) h k (v.Truth b) e = ap (λ n. atom.Int n ∷ []) (int_same m (number_of b) e)
one_key (v.Int m) h k (v.Int n) e = ap (λ n. atom.Int n ∷ []) (int_same m n e)
one_key (v.Text s) h k (v.Text t) e = ap (λ w. atom.Text w ∷ []) (text_same s t e)
one_key (v.Tuple xs) h k (v.Tuple ys) e =
    let all = all_one xs h k ys e in
    ap (λ n. atom.Tuple n ∷ keys_of xs) all.0 ∙ ap (λ c. atom.Tuple (length (map key_of ys)) ∷ c) all.1
one_key (v.List xs) h k y e = no_yes k
one_key (v.Dict ps) h k y e = no_yes k
one_key _ h k _ e = no_yes e

key_follows : (a : Value) → OneKey a
key_follows = induct OneKey (λ x h k. by_layer (λ b. Yes (equal (roll-Value x) b) → key_of (roll-Value x) ≡ key_of b)
    (λ y e. key_rolled x ∙ one_key x h (sym (hashable_rolled x) ∙ k) y (sym (rolled x y) ∙ e) ∙ sym (key_rolled y)))

pub hash_follows : (a b : Value) → Yes (hashable a) → Yes (equal a b) → key_input (key_of a) ≡ key_input (key_of b)
hash_follows a b k e = ap key_input (key_follows a k b e)

-- ---- no key begins another

abbrev OneValue : Value → Type 0
OneValue a = Yes (hashable a) → (b : Value) → Yes (hashable b) → (r t : List Atom) → key_of a ++ r ≡ key_of b ++ t → Yes (equal a b) × (r ≡ t)

tail : {a b : Atom} {r t : List Atom} → a ∷ r ≡ b ∷ t → r ≡ t
tail e = cc e

int_head : {m n : ℤ} {r t : List Atom} → atom.Int m ∷ r ≡ atom.Int n ∷ t → m ≡ n
int_head e = cc e

text_head : {s u : List ℕ} {r t : List Atom} → atom.Text s ∷ r ≡ atom.Text u ∷ t → s ≡ u
text_head e = cc e

tuple_head : {m n : ℕ} {r t : List Atom} → atom.Tuple m ∷ r ≡ atom.Tuple n ∷ t → m ≡ n
tuple_head e = cc e

number : (m n : ℤ) (r t : List Atom) → atom.Int m ∷ r ≡ atom.Int n ∷ t → Yes (int_eq m n) × (r ≡ t)
number m n r t e = (subst (λ (k : ℤ). Yes (int_eq m k)) (int_head e) (int_itself m), tail e)

all_values : (xs : List Value) → AllByRecursion OneValue xs → Yes (hashable_all xs) → (ys : List Value) → Yes (hashable_all ys) → (r t : List Atom) → length (map key_of xs) ≡ length (map key_of ys) → keys_of xs ++ r ≡ keys_of ys ++ t → Yes (equal_all xs ys) × (r ≡ t)
all_values [] h k [] l r t n e = (refl, e)
all_values [] h k (y ∷ ys) l r t n e = cc n
all_values (x ∷ xs) h k [] l r t n e = cc n
all_values (x ∷ xs) h k (y ∷ ys) l r t n e =
    let here = h.0 (first (hashable x) (hashable_all xs) k) y (first (hashable y) (hashable_all ys) l) (keys_of xs ++ r) (keys_of ys ++ t) (sym (append_assoc (key_of x) (keys_of xs) r) ∙ e ∙ append_assoc (key_of y) (keys_of ys) t) in
    let rest = all_values xs h.1 (second (hashable x) (hashable_all xs) k) ys (second (hashable y) (hashable_all ys) l) r t (suc_inj n) here.1 in
    (both (equal x y) (equal_all xs ys) here.0 rest.0, rest.1)

one_value : (x : Value-F Value) → Parts OneValue x → Yes (layer_hashable x) → (y : Value-F Value) → Yes (layer_hashable y) → (r t : List Atom) → layer_key x ++ r ≡ layer_key y ++ t → Yes (same x y) × (r ≡ t)
one_value (v.List xs) h k y l r t e = no_yes k
one_value (v.Dict ps) h k y l r t e = no_yes k
one_value _ h k (v.List ys) l r t e = no_yes l
one_value _ h k (v.Dict qs) l r t e = no_yes l
one_value v.Nil h k v.Nil l r t e = (refl, tail e)
one_value (v.Truth a) h k (v.Truth b) l r t e = number (number_of a) (number_of b) r t e
one_value (v.Truth a) h k (v.Int n) l r t e = number (number_of a) n r t e
one_value (v.Int m) h k (v.Truth b) l r t e = number m (number_of b) r t e
one_value (v.Int m) h k (v.Int n) l r t e = number m n r t e
one_value (v.Text s) h k (v.Text u) l r t e = (subst (λ (w : List ℕ). Yes (same_text s w)) (text_head e) (text_itself s), tail e)
one_value (v.Tuple xs) h k (v.Tuple ys) l r t e = all_values xs h k ys l r t (tuple_head e) (tail e)
one_value _ h k _ l r t e = absurd (cc e)

value_follows : (a : Value) → OneValue a
value_follows = induct OneValue (λ x h k. by_layer (λ b. Yes (hashable b) → (r t : List Atom) → key_of (roll-Value x) ++ r ≡ key_of b ++ t → Yes (equal (roll-Value x) b) × (r ≡ t))
    (λ y l r t e.
    let one = one_value x h (sym (hashable_rolled x) ∙ k) y (sym (hashable_rolled y) ∙ l) r t (ap (λ c. c ++ r) (sym (key_rolled x)) ∙ e ∙ ap (λ c. c ++ t) (key_rolled y)) in
    (rolled x y ∙ one.0, one.1)))

pub keys_agree : (a b : Value) → Yes (hashable a) → Yes (hashable b) → same_key (key_of a) (key_of b) ≡ equal a b
keys_agree a b k l =
    same_from_decides (same_key (key_of a) (key_of b)) (equal a b) (key_decides (key_of a) (key_of b))
    ((λ e. key_follows a k b e), (λ e. (value_follows a k b l [] [] (ap (λ c. c ++ []) e)).0))

-- ---- what is equal to a hashable value is hashable

abbrev HashableIfEqual : Value → Type 0
HashableIfEqual a = Yes (hashable a) → (b : Value) → Yes (equal a b) → Yes (hashable b)

all_hashable : (xs : List Value) → AllByRecursion HashableIfEqual xs → Yes (hashable_all xs) → (ys : List Value) → Yes (equal_all xs ys) → Yes (hashable_all ys)
all_hashable [] h k [] e = refl
all_hashable [] h k (y ∷ ys) e = no_yes e
all_hashable (x ∷ xs) h k [] e = no_yes e
all_hashable (x ∷ xs) h k (y ∷ ys) e =
    both (hashable y) (hashable_all ys)
    (h.0 (first (hashable x) (hashable_all xs) k) y (first (equal x y) (equal_all xs ys) e))
    (all_hashable xs h.1 (second (hashable x) (hashable_all xs) k) ys (second (equal x y) (equal_all xs ys) e))

layer_hashable_if_equal : (x : Value-F Value) → Parts HashableIfEqual x → Yes (layer_hashable x) → (y : Value-F Value) → Yes (same x y) → Yes (layer_hashable y)
layer_hashable_if_equal (v.List xs) h k y e = no_yes k
layer_hashable_if_equal (v.Dict ps) h k y e = no_yes k
layer_hashable_if_equal (v.Tuple xs) h k (v.Tuple ys) e = all_hashable xs h k ys e
layer_hashable_if_equal _ h k (v.List ys) e = no_yes e
layer_hashable_if_equal _ h k (v.Dict qs) e = no_yes e
layer_hashable_if_equal _ h k (v.Tuple ys) e = no_yes e
layer_hashable_if_equal _ h k _ e = refl

hashable_if_equal : (a : Value) → HashableIfEqual a
hashable_if_equal = induct HashableIfEqual (λ x h k. by_layer (λ b. Yes (equal (roll-Value x) b) → Yes (hashable b))
    (λ y e. hashable_rolled y ∙ layer_hashable_if_equal x h (sym (hashable_rolled x) ∙ k) y (sym (rolled x y) ∙ e)))

pub hashable_follows : (a b : Value) → Yes (hashable a) → Yes (equal a b) → Yes (hashable b)
hashable_follows a b k e = hashable_if_equal a k b e
