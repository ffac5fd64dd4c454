-- The values that are given to parameters, and what a function gives on them.
use Rattle.std.proofs.Common.{◌≡◌, ℕ, zero, suc, ◌≤◌, ◌<◌, List, [], ◌∷◌, length, drop, nat_eq, Err, refl, sym, ap, ◌∙◌, arith}
use Rattle.std.specs.Prelude.{get_or}
use Rattle.tx_base.specs.declared.class.Class.{Class}
use Rattle.tx_values.specs.declared.value.Value.{Value}
use Rattle.tx_names.specs.Function.{Body, Function, function, body_of, params_of}
use Rattle.tx_meaning.specs.Maps.{Row, no_locals, put, put_all}
use Rattle.tx_meaning.specs.Meaning.{applied, yields}
use Rattle.tx_interp.specs.Frames.{Slots}
use Rattle.tx_interp.proofs.Slots.{map_empty}

-- the first value, and then the others
pub put_more : (slots : List ℕ) (x : Value) (ys : List Value) (m : Slots) → put_all nat_eq slots (x ∷ ys) m ≡ put_all nat_eq (drop 1 slots) ys (put_all nat_eq (drop 0 slots) (x ∷ []) m)
put_more [] x ys m = refl
put_more (s ∷ []) x ys m = refl
put_more (s ∷ (t ∷ slots)) x ys m = refl

pub put_none : (slots : List ℕ) (m : Slots) → put_all nat_eq slots [] m ≡ m
put_none [] m = refl
put_none (s ∷ slots) m = refl

pub put_at : (slots : List ℕ) (i d : ℕ) (x : Value) (m : Slots) → i < length slots → put_all nat_eq (drop i slots) (x ∷ []) m ≡ put nat_eq (get_or slots i d) x m
put_at [] i d x m h = absurd (omega arith)
put_at (s ∷ slots) zero d x m h = put_none slots (put nat_eq s x m)
put_at (s ∷ slots) (suc i) d x m h = put_at slots i d x m (omega arith)

pub put_past : (slots : List ℕ) (i : ℕ) (x : Value) (m : Slots) → length slots ≤ i → put_all nat_eq (drop i slots) (x ∷ []) m ≡ m
put_past [] zero x m h = refl
put_past [] (suc i) x m h = refl
put_past (s ∷ slots) zero x m h = absurd (omega arith)
put_past (s ∷ slots) (suc i) x m h = put_past slots i x m (omega arith)

pub ruleset giving = (map_empty, put_more, put_none, put_at, put_past)

-- a function is applied by its parts
pub applied_is : (g : Function ℕ) (r : Row) (xs : List Value) → applied nat_eq g r xs ≡ yields nat_eq (body_of g) r (put_all nat_eq (params_of g) xs (no_locals nat_eq))
applied_is (function role params locals body) r xs = refl

-- a body that raises
pub call_raises : (g : Function ℕ) (b : Body ℕ) (r s : Row) (ns : List ℕ) (xs : List Value) (m : Slots) (c : Class) → b ≡ body_of g → r ≡ s → ns ≡ params_of g → m ≡ put_all nat_eq ns xs (no_locals nat_eq) → yields nat_eq b r m ≡ Err c → applied nat_eq g s xs ≡ Err c
call_raises g b r s ns xs m c hb hr hn hm h = applied_is g s xs ∙ sym (ap (λ b. yields nat_eq b r m) hb ∙ ap (λ r. yields nat_eq (body_of g) r m) hr ∙ ap (yields nat_eq (body_of g) s) (hm ∙ ap (λ ns. put_all nat_eq ns xs (no_locals nat_eq)) hn)) ∙ h
