-- Division that rounds down: the code's remainder, and that no other quotient and remainder there are.
use Rattle.std.proofs.Common.{◌≡◌, ◌≢◌, ◌∙◌, ℕ, zero, suc, ◌+◌, ◌-◌, ◌*◌, ◌/◌, ◌%◌, ◌<◌, ℤ, pos, negsuc, refl, sym, ap, arith}
use Rattle.std.specs.Prelude.{◌+ℤ◌, ◌-ℤ◌, ◌*ℤ◌, ◌<ℤ◌, ◌≤ℤ◌, neg_ℤ, int_rem}
use Rattle.std.proofs.Math.IntN.{*ℤ-negsuc}
use Rattle.std.proofs.lemmas.Int.{ints}
use Rattle.std.proofs.lemmas.Nat.{mod_below, div-mul-add, mod-mul-add, div-add-mod'}
use Rattle.tx_num.specs.Number.{floor_quotient, floor_remainder, floor_modulo, quotient_by, remainder_by}
use Rattle.tx_num.specs.Laws.{LiesBetween, IsFloor, FloorLaw}
use Rattle.tx_num.specs.declared.division.Division.TheVariants.{Value}

-- ---- the code's remainder where the divisor alone is negative

pub low_rest : (a b r : ℤ) → pos 0 <ℤ a → b <ℤ pos 0 → r ≡ int_rem (a -ℤ pos 1) b → (pos 0 ≤ℤ r) × ((b +ℤ r) <ℤ pos 0)
low_rest (negsuc k) b r up down is = absurd (omega (arith, ints))
low_rest (pos k) (pos m) r up down is = absurd (omega (arith, ints))
low_rest (pos zero) (negsuc m) r up down is = absurd (omega (arith, ints))
low_rest (pos (suc k)) (negsuc m) r up down is =
    let less : pos (suc k) -ℤ pos 1 ≡ pos k = omega (arith, ints) in
    let rest : r ≡ pos (k % suc m) = is ∙ ap (λ z. int_rem z (negsuc m)) less in
    (omega (arith, ints), omega (arith, ints, mod_below k (suc m) (omega arith)))

pub mod_down : (a b r z : ℤ) → pos 0 <ℤ a → b <ℤ pos 0 → r ≡ int_rem (a -ℤ pos 1) b → z ≡ b +ℤ pos 1 +ℤ r → Value z ≡ floor_modulo a b
mod_down (negsuc k) b r z up down is sum = absurd (omega (arith, ints))
mod_down (pos k) (pos m) r z up down is sum = absurd (omega (arith, ints))
mod_down (pos zero) (negsuc m) r z up down is sum = absurd (omega (arith, ints))
mod_down (pos (suc k)) (negsuc m) r z up down is sum =
    let less : pos (suc k) -ℤ pos 1 ≡ pos k = omega (arith, ints) in
    let rest : r ≡ pos (k % suc m) = is ∙ ap (λ z. int_rem z (negsuc m)) less in
    let whole : z ≡ neg_ℤ (pos (suc m - 1 - k % suc m)) = omega (arith, ints, mod_below k (suc m) (omega arith)) in
    ap Value whole

-- ---- by a positive divisor

-- a number is its quotient and its remainder
whole_by : (b : ℕ) (a : ℤ) → 0 < b → a ≡ quotient_by b a *ℤ pos b +ℤ remainder_by b a
whole_by b (pos a) some = omega (arith, ints, div-add-mod' a b)
whole_by b (negsuc a) some = omega (arith, ints, div-add-mod' a b, mod_below a b some)

between_by : (b : ℕ) (a : ℤ) → 0 < b → LiesBetween (pos b) (remainder_by b a)
between_by b (pos a) some = (omega (arith, ints, mod_below a b some), omega (arith, ints, mod_below a b some))
between_by b (negsuc a) some = (omega (arith, ints, mod_below a b some), omega (arith, ints, mod_below a b some))

-- and no other two numbers are so
only_by : (b : ℕ) (a q r : ℤ) → 0 < b → a ≡ q *ℤ pos b +ℤ r → pos 0 ≤ℤ r → r <ℤ pos b → (q ≡ quotient_by b a) × (r ≡ remainder_by b a)
only_by b a q (negsuc k) some whole low high = absurd (omega (arith, ints))
only_by b (pos n) (negsuc m) (pos k) some whole low high = absurd (omega (arith, ints))
only_by b (negsuc n) (pos m) (pos k) some whole low high = absurd (omega (arith, ints))
only_by b (pos n) (pos m) (pos k) some whole low high =
    let below : k < b = omega (arith, ints) in
    let e : n ≡ m * b + k = omega (arith, ints) in
    (ap pos (sym (ap (λ x. x / b) e ∙ div-mul-add m b k below)), ap pos (sym (ap (λ x. x % b) e ∙ mod-mul-add m b k below)))
only_by b (negsuc n) (negsuc m) (pos k) some whole low high =
    let below : k < b = omega (arith, ints) in
    let e : n ≡ m * b + (b - 1 - k) = omega (arith, ints) in
    let least : b - 1 - k < b = omega arith in
    let rest : n % b ≡ b - 1 - k = ap (λ x. x % b) e ∙ mod-mul-add m b (b - 1 - k) least in
    let same : k ≡ b - 1 - n % b = omega arith in
    (ap negsuc (sym (ap (λ x. x / b) e ∙ div-mul-add m b (b - 1 - k) least)), ap pos same)

-- ---- by any divisor but 0

is_floor : (a b : ℤ) → b ≢ pos 0 → IsFloor a b (floor_quotient a b) (floor_remainder a b)
is_floor a (pos zero) other = absurd (other refl)
is_floor a (pos (suc b)) other = (whole_by (suc b) a (omega arith), between_by (suc b) a (omega arith))
is_floor a (negsuc b) other =
    let q : ℤ = quotient_by (suc b) (neg_ℤ a) in
    let r : ℤ = remainder_by (suc b) (neg_ℤ a) in
    let whole : neg_ℤ a ≡ q *ℤ pos (suc b) +ℤ r = whole_by (suc b) (neg_ℤ a) (omega arith) in
    let turned : q *ℤ negsuc b ≡ neg_ℤ (q *ℤ pos (suc b)) = *ℤ-negsuc q b in
    let between : LiesBetween (pos (suc b)) r = between_by (suc b) (neg_ℤ a) (omega arith) in
    let low : pos 0 ≤ℤ r = between.0 in
    let high : r <ℤ pos (suc b) = between.1 in
    (omega (arith, ints), (omega (arith, ints), omega (arith, ints)))

only_floor : (a b : ℤ) → b ≢ pos 0 → (q r : ℤ) → IsFloor a b q r → (q ≡ floor_quotient a b) × (r ≡ floor_remainder a b)
only_floor a (pos zero) other q r is = absurd (other refl)
only_floor a (pos (suc b)) other q r is = only_by (suc b) a q r (omega arith) is.0 is.1.0 is.1.1
only_floor a (negsuc b) other q r is =
    let turned : q *ℤ negsuc b ≡ neg_ℤ (q *ℤ pos (suc b)) = *ℤ-negsuc q b in
    let given : a ≡ q *ℤ negsuc b +ℤ r = is.0 in
    let low : negsuc b <ℤ r = is.1.0 in
    let high : r ≤ℤ pos 0 = is.1.1 in
    let whole : neg_ℤ a ≡ q *ℤ pos (suc b) +ℤ neg_ℤ r = omega (arith, ints) in
    let only = only_by (suc b) (neg_ℤ a) q (neg_ℤ r) (omega arith) whole (omega (arith, ints)) (omega (arith, ints)) in
    let back : neg_ℤ r ≡ remainder_by (suc b) (neg_ℤ a) = only.1 in
    (only.0, omega (arith, ints))

pub floor_law : FloorLaw
floor_law a b other = (is_floor a b other, only_floor a b other)
