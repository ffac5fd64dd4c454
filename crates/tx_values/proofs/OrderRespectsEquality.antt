-- The order does not tell equal values apart, on either side.
use Rattle.std.proofs.Common.{◌≡◌, ℤ, Bool, true, false, List, [], ◌∷◌, Ok, Err, if◌then◌else◌, refl, sym, ap, ◌∙◌}
use Rattle.std.specs.Prelude.{int_lt}
use Rattle.std.specs.List.{AllByRecursion}
use Rattle.tx_base.specs.declared.class.Class.TheVariants.{TypeError}
use Rattle.tx_values.specs.declared.value.Value.{Value, roll-Value}
use Rattle.tx_values.specs.declared.value.Value.TheOpen.{Value-F}
use Rattle.tx_values.specs.declared.value.Value.TheOpen as v
use Rattle.tx_values.specs.Calls.Lists.{equal_all, less_all}
use Rattle.tx_values.specs.Equality.{equal, number_of}
use Rattle.tx_values.specs.Laws.{LessLeftLaw, LessRightLaw}
use Rattle.tx_values.specs.Order.{Answer, less}
use Rattle.tx_values.specs.Valid.{Parts, keyed}
use Rattle.tx_values.proofs.EqualityLemmas.{Yes, first, second, no_yes, int_same, text_same, same, rolled}
use Rattle.tx_values.proofs.Equivalence.{symmetric, transitive}
use Rattle.tx_values.proofs.Induction.{induct, by_layer}
use Rattle.tx_values.proofs.KeyedLayers.{keyed_all, keyed_layer, keyed_rolled}
use Rattle.tx_values.proofs.OrderLemmas.{less_layer, less_rolled}

-- ---- equality does not tell equal values apart

same_bools : (b c : Bool) → (Yes b → Yes c) → (Yes c → Yes b) → b ≡ c
same_bools true true f g = refl
same_bools true false f g = no_yes (f refl)
same_bools false true f g = no_yes (g refl)
same_bools false false f g = refl

equal_left : (x : Value) → Yes (keyed x) → (y : Value) → Yes (equal x y) → (z : Value) → equal x z ≡ equal y z
equal_left x k y e z = same_bools (equal x z) (equal y z) (λ f. transitive y x z (symmetric x k y e) f) (λ f. transitive x y z e f)

equal_right : (x : Value) → Yes (keyed x) → (y : Value) → Yes (equal x y) → (z : Value) → equal z x ≡ equal z y
equal_right x k y e z = same_bools (equal z x) (equal z y) (λ f. transitive z x y f e) (λ f. transitive z y x f (symmetric x k y e))

branch : (b c : Bool) (p q r s : Answer) → b ≡ c → p ≡ q → r ≡ s → (if b then p else r) ≡ (if c then q else s)
branch b c p q r s e f g = ap (λ t. if t then p else r) e ∙ (ap (λ t. if c then t else r) f ∙ ap (λ t. if c then q else t) g)

-- ---- on the left

abbrev SameBefore : Value → Type 0
SameBefore a = Yes (keyed a) → (b : Value) → Yes (equal a b) → (c : Value) → less a c ≡ less b c

all_before : (xs : List Value) → AllByRecursion SameBefore xs → Yes (keyed_all xs) → (ys : List Value) → Yes (equal_all xs ys) → (zs : List Value) → less_all xs zs ≡ less_all ys zs
all_before [] h k [] e zs = refl
all_before [] h k (y ∷ ys) e zs = no_yes e
all_before (x ∷ xs) h k [] e zs = no_yes e
all_before (x ∷ xs) h k (y ∷ ys) e [] = refl
all_before (x ∷ xs) h k (y ∷ ys) e (z ∷ zs) =
    let keyed_x = first (keyed x) (keyed_all xs) k in
    let equal_xy = first (equal x y) (equal_all xs ys) e in
    let rest = all_before xs h.1 (second (keyed x) (keyed_all xs) k) ys (second (equal x y) (equal_all xs ys) e) zs in
    branch (equal x z) (equal y z) (less_all xs zs) (less_all ys zs) (less x z) (less y z) (equal_left x keyed_x y equal_xy z) rest (h.0 keyed_x y equal_xy z)

-- a number before a layer
number_before : ℤ → Value-F Value → Answer
number_before n (v.Truth b) = Ok (int_lt n (number_of b))
number_before n (v.Int m) = Ok (int_lt n m)
number_before n _ = Err TypeError

truth_before : (a : Bool) (z : Value-F Value) → less_layer (v.Truth a) z ≡ number_before (number_of a) z
unfolding number_before
truth_before a (v.Truth b) = refl
truth_before a (v.Int n) = refl
truth_before a _ = refl

int_before : (n : ℤ) (z : Value-F Value) → less_layer (v.Int n) z ≡ number_before n z
unfolding number_before
int_before n (v.Truth b) = refl
int_before n (v.Int m) = refl
int_before n _ = refl

before : (x : Value-F Value) → Parts SameBefore x → Yes (keyed_layer x) → (y : Value-F Value) → Yes (same x y) → (z : Value-F Value) → less_layer x z ≡ less_layer y z
before v.Nil h k v.Nil e z = refl
before (v.Truth a) h k (v.Truth b) e z = truth_before a z ∙ (ap (λ n. number_before n z) (int_same (number_of a) (number_of b) e) ∙ sym (truth_before b z))
before (v.Truth a) h k (v.Int n) e z = truth_before a z ∙ (ap (λ m. number_before m z) (int_same (number_of a) n e) ∙ sym (int_before n z))
before (v.Int m) h k (v.Truth b) e z = int_before m z ∙ (ap (λ n. number_before n z) (int_same m (number_of b) e) ∙ sym (truth_before b z))
before (v.Int m) h k (v.Int n) e z = ap (λ j. less_layer (v.Int j) z) (int_same m n e)
before (v.Text s) h k (v.Text t) e z = ap (λ w. less_layer (v.Text w) z) (text_same s t e)
before (v.Tuple xs) h k (v.Tuple ys) e (v.Tuple zs) = all_before xs h k ys e zs
before (v.List xs) h k (v.List ys) e (v.List zs) = all_before xs h k ys e zs
before (v.Tuple xs) h k (v.Tuple ys) e _ = refl
before (v.List xs) h k (v.List ys) e _ = refl
before (v.Dict ps) h k (v.Dict qs) e z = refl
before _ h k _ e z = no_yes e

pub less_left : LessLeftLaw
less_left a b c k e =
    let all = induct SameBefore
    (λ x h l. by_layer (λ q. Yes (equal (roll-Value x) q) → (r : Value) → less (roll-Value x) r ≡ less q r)
    (λ y f. by_layer (λ r. less (roll-Value x) r ≡ less (roll-Value y) r)
    (λ z. less_rolled x z ∙ (before x h (sym (keyed_rolled x) ∙ l) y (sym (rolled x y) ∙ f) z ∙ sym (less_rolled y z))))) in
    all a k b e c

-- ---- on the right

abbrev SameBehind : Value → Type 0
SameBehind a = Yes (keyed a) → (b : Value) → Yes (equal a b) → (c : Value) → less c a ≡ less c b

all_behind : (xs : List Value) → AllByRecursion SameBehind xs → Yes (keyed_all xs) → (ys : List Value) → Yes (equal_all xs ys) → (zs : List Value) → less_all zs xs ≡ less_all zs ys
all_behind [] h k [] e zs = refl
all_behind [] h k (y ∷ ys) e zs = no_yes e
all_behind (x ∷ xs) h k [] e zs = no_yes e
all_behind (x ∷ xs) h k (y ∷ ys) e [] = refl
all_behind (x ∷ xs) h k (y ∷ ys) e (z ∷ zs) =
    let keyed_x = first (keyed x) (keyed_all xs) k in
    let equal_xy = first (equal x y) (equal_all xs ys) e in
    let rest = all_behind xs h.1 (second (keyed x) (keyed_all xs) k) ys (second (equal x y) (equal_all xs ys) e) zs in
    branch (equal z x) (equal z y) (less_all zs xs) (less_all zs ys) (less z x) (less z y) (equal_right x keyed_x y equal_xy z) rest (h.0 keyed_x y equal_xy z)

-- a layer before a number
number_behind : Value-F Value → ℤ → Answer
number_behind (v.Truth b) n = Ok (int_lt (number_of b) n)
number_behind (v.Int m) n = Ok (int_lt m n)
number_behind _ n = Err TypeError

truth_behind : (z : Value-F Value) (a : Bool) → less_layer z (v.Truth a) ≡ number_behind z (number_of a)
unfolding number_behind
truth_behind (v.Truth b) a = refl
truth_behind (v.Int n) a = refl
truth_behind _ a = refl

int_behind : (z : Value-F Value) (n : ℤ) → less_layer z (v.Int n) ≡ number_behind z n
unfolding number_behind
int_behind (v.Truth b) n = refl
int_behind (v.Int m) n = refl
int_behind _ n = refl

behind : (x : Value-F Value) → Parts SameBehind x → Yes (keyed_layer x) → (y : Value-F Value) → Yes (same x y) → (z : Value-F Value) → less_layer z x ≡ less_layer z y
behind v.Nil h k v.Nil e z = refl
behind (v.Truth a) h k (v.Truth b) e z = truth_behind z a ∙ (ap (number_behind z) (int_same (number_of a) (number_of b) e) ∙ sym (truth_behind z b))
behind (v.Truth a) h k (v.Int n) e z = truth_behind z a ∙ (ap (number_behind z) (int_same (number_of a) n e) ∙ sym (int_behind z n))
behind (v.Int m) h k (v.Truth b) e z = int_behind z m ∙ (ap (number_behind z) (int_same m (number_of b) e) ∙ sym (truth_behind z b))
behind (v.Int m) h k (v.Int n) e z = ap (λ j. less_layer z (v.Int j)) (int_same m n e)
behind (v.Text s) h k (v.Text t) e z = ap (λ w. less_layer z (v.Text w)) (text_same s t e)
behind (v.Tuple xs) h k (v.Tuple ys) e (v.Tuple zs) = all_behind xs h k ys e zs
behind (v.List xs) h k (v.List ys) e (v.List zs) = all_behind xs h k ys e zs
behind (v.Tuple xs) h k (v.Tuple ys) e _ = refl
behind (v.List xs) h k (v.List ys) e _ = refl
behind (v.Dict ps) h k (v.Dict qs) e (v.Truth b) = refl
behind (v.Dict ps) h k (v.Dict qs) e _ = refl
behind _ h k _ e z = no_yes e

pub less_right : LessRightLaw
less_right a b c k e =
    let all = induct SameBehind
    (λ x h l. by_layer (λ q. Yes (equal (roll-Value x) q) → (r : Value) → less r (roll-Value x) ≡ less r q)
    (λ y f. by_layer (λ r. less r (roll-Value x) ≡ less r (roll-Value y))
    (λ z. less_rolled z x ∙ (behind x h (sym (keyed_rolled x) ∙ l) y (sym (rolled x y) ∙ f) z ∙ sym (less_rolled z y))))) in
    all a k b e c
