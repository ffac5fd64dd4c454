-- The order of numbers and that of texts are strict and total.
use Rattle.std.proofs.Common.{◌≡◌, ◌⊎◌, inl, inr, ◌<◌, ◌==◌, ◌&&◌, ◌||◌, ℕ, ℤ, pos, negsuc, Bool, true, false, cond, List, [], ◌∷◌, Ok, refl, sym, ap, subst, ◌∙◌, arith, nat_lt, Less, Equal, Greater}
use Rattle.std.specs.Prelude.{int_lt}
use Rattle.std.specs.Ordering.{int_eq, is_eq}
use Rattle.std.proofs.lemmas.Bool.{eq-eqb, eqb-true, lt-ltb, ltb-true, cases_lt}
use Rattle.std.proofs.lemmas.Bool.Decides.{nat_tests}
use Rattle.tx_text.specs.Text as text
use Rattle.tx_values.specs.declared.value.Value.{Value, out-Value, roll-Value, out-roll-Value}
use Rattle.tx_values.specs.declared.value.Value.TheOpen.{Value-F}
use Rattle.tx_values.specs.declared.value.Value.TheOpen as v
use Rattle.tx_values.specs.Equality.{number_of, same_text}
use Rattle.tx_values.specs.Order.{Answer, less}
use Rattle.tx_values.specs.Laws.{is_numeric, is_textual, IsNumber, IsText, OneOf, Compared, TrichotomyLaw, LessTransitiveLaw}
use Rattle.tx_values.proofs.Induction.{by_layer}
use Rattle.tx_values.proofs.OrderLemmas.{less_layer, less_rolled}
use Rattle.tx_values.proofs.EqualityLemmas.{Yes, both, first, second, no_yes, same, rolled}

-- ---- numbers

nat_one : (m n : ℕ) → OneOf (nat_lt m n) (m == n) (nat_lt n m)
nat_one m n = elim (cases_lt m n) [
  | inl a ↦ inl (grind (arith, nat_tests), grind (arith, nat_tests), grind (arith, nat_tests))
  | inr b ↦ elim (cases_lt n m) [
    | inl c ↦ inr (inr (grind (arith, nat_tests), grind (arith, nat_tests), grind (arith, nat_tests)))
    | inr d ↦ inr (inl (grind (arith, nat_tests), grind (arith, nat_tests), grind (arith, nat_tests)))
  ]
]

nat_on : (k m n : ℕ) → Yes (nat_lt k m) → Yes (nat_lt m n) → Yes (nat_lt k n)
nat_on k m n e f = grind (arith, nat_tests)

nat_not : (m n : ℕ) → Yes (nat_lt m n) → nat_lt n m ≡ false
nat_not m n e = grind (arith, nat_tests)

int_not : (m n : ℤ) → Yes (int_lt m n) → int_lt n m ≡ false
int_not (pos m) (pos n) e = nat_not m n e
int_not (pos m) (negsuc n) e = no_yes e
int_not (negsuc m) (pos n) e = refl
int_not (negsuc m) (negsuc n) e = nat_not n m e

-- two numbers are equal where neither is before the other
int_one : (m n : ℤ) → OneOf (int_lt m n) (int_eq m n) (int_lt n m)
int_one m n = go (int_lt m n) (int_lt n m) (int_not m n)
  where
    go : (before behind : Bool) → (Yes before → behind ≡ false) → OneOf before (is_eq (cond before Less (cond behind Greater Equal))) behind
    go true behind h = inl (refl, refl, h refl)
    go false true h = inr (inr (refl, refl, refl))
    go false false h = inr (inl (refl, refl, refl))

int_on : (k m n : ℤ) → Yes (int_lt k m) → Yes (int_lt m n) → Yes (int_lt k n)
int_on (pos k) (pos m) (pos n) e f = nat_on k m n e f
int_on (pos k) (pos m) (negsuc n) e f = no_yes f
int_on (pos k) (negsuc m) n e f = no_yes e
int_on (negsuc k) (pos m) (pos n) e f = refl
int_on (negsuc k) (pos m) (negsuc n) e f = no_yes f
int_on (negsuc k) (negsuc m) (pos n) e f = refl
int_on (negsuc k) (negsuc m) (negsuc n) e f = nat_on n m k f e

-- ---- texts

eqb_turn : (m n : ℕ) → (n == m) ≡ (m == n)
eqb_turn m n = grind (arith, nat_tests)

text_one : (s t : List ℕ) → OneOf (text.less s t) (same_text s t) (text.less t s)
text_one [] [] = inr (inl (refl, refl, refl))
text_one [] (d ∷ t) = inl (refl, refl, refl)
text_one (c ∷ s) [] = inr (inr (refl, refl, refl))
text_one (c ∷ s) (d ∷ t) = go (nat_lt c d) (c == d) (d == c) (nat_lt d c) (text.less s t) (same_text s t) (text.less t s) (nat_one c d) (eqb_turn c d) (text_one s t)
  where
    -- the first characters decide, unless they are equal
    go : (l e f g a b c : Bool) → OneOf l e g → f ≡ e → OneOf a b c → OneOf (l || (e && a)) (e && b) (g || (f && c))
    go l e f g a b c (inl h) s r = rw (h.0, h.1, h.2, s ∙ h.1) (inl (refl, refl, refl))
    go l e f g a b c (inr (inl h)) s r = rw (h.0, h.1, h.2, s ∙ h.1) r
    go l e f g a b c (inr (inr h)) s r = rw (h.0, h.1, h.2) (inr (inr (refl, refl, refl)))

-- before at the first place, or equal there and before behind it
at_first : (c d : ℕ) (r : Bool) → Yes (nat_lt c d || ((c == d) && r)) → ((c ≡ d) × Yes r) ⊎ (c < d)
at_first c d r e = go (nat_lt c d) refl e
  where
    go : (b : Bool) → nat_lt c d ≡ b → Yes (b || ((c == d) && r)) → ((c ≡ d) × Yes r) ⊎ (c < d)
    go true p e = inr (ltb-true c d p)
    go false p e = inl (eqb-true c d (first (c == d) r e), second (c == d) r e)

of_below : (c d : ℕ) (r : Bool) → c < d → Yes (nat_lt c d || ((c == d) && r))
of_below c d r h = ap (λ b. b || ((c == d) && r)) (lt-ltb c d h)

of_equal : (c d : ℕ) (r : Bool) → c ≡ d → Yes r → Yes (nat_lt c d || ((c == d) && r))
of_equal c d r h e = go (nat_lt c d) (both (c == d) r (eq-eqb c d h) e)
  where
    go : (b : Bool) → Yes ((c == d) && r) → Yes (b || ((c == d) && r))
    go true k = refl
    go false k = k

text_on : (s t u : List ℕ) → Yes (text.less s t) → Yes (text.less t u) → Yes (text.less s u)
text_on [] [] u e f = f
text_on [] (d ∷ t) [] e f = no_yes f
text_on [] (d ∷ t) (k ∷ u) e f = refl
text_on (c ∷ s) [] u e f = no_yes e
text_on (c ∷ s) (d ∷ t) [] e f = no_yes f
text_on (c ∷ s) (d ∷ t) (k ∷ u) e f = go (at_first c d (text.less s t) e) (at_first d k (text.less t u) f) (text_on s t u)
  where
    go : ((c ≡ d) × Yes (text.less s t)) ⊎ (c < d) → ((d ≡ k) × Yes (text.less t u)) ⊎ (d < k) → (Yes (text.less s t) → Yes (text.less t u) → Yes (text.less s u)) → Yes (nat_lt c k || ((c == k) && text.less s u))
    go (inl a) (inl b) rest = of_equal c k (text.less s u) (a.0 ∙ b.0) (rest a.1 b.1)
    go (inl a) (inr b) rest = of_below c k (text.less s u) (subst (λ (n : ℕ). n < k) (sym a.0) b)
    go (inr a) (inl b) rest = of_below c k (text.less s u) (subst (λ (n : ℕ). c < n) b.0 a)
    go (inr a) (inr b) rest = of_below c k (text.less s u) (omega arith)

-- ---- the number and the text of a layer

number_at : Value-F Value → ℤ
number_at (v.Truth b) = number_of b
number_at (v.Int n) = n
number_at _ = pos 0

text_at : Value-F Value → List ℕ
text_at (v.Text s) = s
text_at _ = []

less_number : (x y : Value-F Value) → Yes (is_numeric x) → Yes (is_numeric y) → less_layer x y ≡ Ok (int_lt (number_at x) (number_at y))
unfolding number_at
less_number (v.Truth a) (v.Truth b) h k = refl
less_number (v.Truth a) (v.Int n) h k = refl
less_number (v.Int m) (v.Truth b) h k = refl
less_number (v.Int m) (v.Int n) h k = refl
less_number (v.Truth a) _ h k = no_yes k
less_number (v.Int m) _ h k = no_yes k
less_number _ _ h k = no_yes h

same_number : (x y : Value-F Value) → Yes (is_numeric x) → Yes (is_numeric y) → same x y ≡ int_eq (number_at x) (number_at y)
unfolding number_at
same_number (v.Truth a) (v.Truth b) h k = refl
same_number (v.Truth a) (v.Int n) h k = refl
same_number (v.Int m) (v.Truth b) h k = refl
same_number (v.Int m) (v.Int n) h k = refl
same_number (v.Truth a) _ h k = no_yes k
same_number (v.Int m) _ h k = no_yes k
same_number _ _ h k = no_yes h

less_texts : (x y : Value-F Value) → Yes (is_textual x) → Yes (is_textual y) → less_layer x y ≡ Ok (text.less (text_at x) (text_at y))
unfolding text_at
less_texts (v.Text s) (v.Text t) h k = refl
less_texts (v.Text s) _ h k = no_yes k
less_texts _ _ h k = no_yes h

same_texts : (x y : Value-F Value) → Yes (is_textual x) → Yes (is_textual y) → same x y ≡ same_text (text_at x) (text_at y)
unfolding text_at
same_texts (v.Text s) (v.Text t) h k = refl
same_texts (v.Text s) _ h k = no_yes k
same_texts _ _ h k = no_yes h

-- ---- an order of values that is one of what their layers hold

ok_same : {l m : Bool} → ◌≡◌ {A = Answer} (Ok l) (Ok m) → l ≡ m
ok_same e = cc e

module _ {X : Type 0} (is : Value-F Value → Bool) (held : Value-F Value → X) (before : X → X → Bool) (alike : X → X → Bool)
    (less_is : (x y : Value-F Value) → Yes (is x) → Yes (is y) → less_layer x y ≡ Ok (before (held x) (held y)))
    (same_is : (x y : Value-F Value) → Yes (is x) → Yes (is y) → same x y ≡ alike (held x) (held y))
    (one : (x y : X) → OneOf (before x y) (alike x y) (before y x))
    (on : (x y z : X) → Yes (before x y) → Yes (before y z) → Yes (before x z)) where
  abbrev Is : Value → Type 0
  Is a = Yes (is (out-Value a))

  is_rolled : (x : Value-F Value) → Is (roll-Value x) → Yes (is x)
  is_rolled x h = subst (λ (z : Value-F Value). Yes (is z)) (out-roll-Value x) h

  less_held : (x y : Value-F Value) → Yes (is x) → Yes (is y) → less (roll-Value x) (roll-Value y) ≡ Ok (before (held x) (held y))
  less_held x y h k = less_rolled x y ∙ less_is x y h k

  total_layers : (x y : Value-F Value) → Yes (is x) → Yes (is y) → Compared (roll-Value x) (roll-Value y)
  total_layers x y h k = (before (held x) (held y), before (held y) (held x), less_held x y h k, less_held y x k h, subst (λ (e : Bool). OneOf (before (held x) (held y)) e (before (held y) (held x))) (sym (rolled x y ∙ same_is x y h k)) (one (held x) (held y)))

  total : TrichotomyLaw Is
  total = by_layer (λ a. (b : Value) → Is a → Is b → Compared a b) (λ x. by_layer (λ b. Is (roll-Value x) → Is b → Compared (roll-Value x) b) (λ y h k. total_layers x y (is_rolled x h) (is_rolled y k)))

  order_layers : (x y z : Value-F Value) → Yes (is x) → Yes (is y) → Yes (is z) → less (roll-Value x) (roll-Value y) ≡ Ok true → less (roll-Value y) (roll-Value z) ≡ Ok true → less (roll-Value x) (roll-Value z) ≡ Ok true
  order_layers x y z h k l e f = less_held x z h l ∙ ap Ok (on (held x) (held y) (held z) (ok_same (sym (less_held x y h k) ∙ e)) (ok_same (sym (less_held y z k l) ∙ f)))

  order : LessTransitiveLaw Is
  order = by_layer (λ a. (b c : Value) → Is a → Is b → Is c → less a b ≡ Ok true → less b c ≡ Ok true → less a c ≡ Ok true)
      (λ x. by_layer (λ b. (c : Value) → Is (roll-Value x) → Is b → Is c → less (roll-Value x) b ≡ Ok true → less b c ≡ Ok true → less (roll-Value x) c ≡ Ok true)
      (λ y. by_layer (λ c. Is (roll-Value x) → Is (roll-Value y) → Is c → less (roll-Value x) (roll-Value y) ≡ Ok true → less (roll-Value y) c ≡ Ok true → less (roll-Value x) c ≡ Ok true)
      (λ z h k l e f. order_layers x y z (is_rolled x h) (is_rolled y k) (is_rolled z l) e f)))

pub numbers_total : TrichotomyLaw IsNumber
numbers_total = total is_numeric number_at int_lt int_eq less_number same_number int_one int_on

pub numbers_ordered : LessTransitiveLaw IsNumber
numbers_ordered = order is_numeric number_at int_lt int_eq less_number same_number int_one int_on

pub texts_total : TrichotomyLaw IsText
texts_total = total is_textual text_at text.less same_text less_texts same_texts text_one text_on

pub texts_ordered : LessTransitiveLaw IsText
texts_ordered = order is_textual text_at text.less same_text less_texts same_texts text_one text_on
