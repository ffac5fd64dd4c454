-- The items of a range: how many multiples of a step lie below a distance, and where each item stands.
use Rattle.std.proofs.Common.{◌≡◌, ◌≢◌, ◌∙◌, ℕ, zero, suc, ◌+◌, ◌*◌, ◌/◌, ◌%◌, ◌<◌, ◌≤◌, min, Option, Some, List, [], ◌∷◌, length, ℤ, pos, negsuc, refl, sym, ap, subst, arith}
use Rattle.std.specs.Prelude.{◌+ℤ◌, ◌-ℤ◌, ◌*ℤ◌, ◌<ℤ◌, ◌↔◌, neg_ℤ, slice_get}
use Rattle.std.specs.Int.{div_ceil}
use Rattle.std.proofs.Math.IntN.{*ℤ-negsuc, suc_ℤ-*ℤ, zero-*ℤ}
use Rattle.std.proofs.Math.Nat.{lt_of_mul-lt-mul_left, mul-le-mul_right}
use Rattle.std.proofs.lemmas.Grind.{div_ceil_times}
use Rattle.std.proofs.lemmas.Int.{ints}
use Rattle.tx_num.specs.Range.{IsBefore, RangeEndLaw, RangeItemsLaw, count_between, items_from, multiples_below}

-- ---- how many multiples lie below a distance

lies_below : (d s k : ℕ) → 0 < s → k < div_ceil d s → k * s < d
lies_below d s k some less =
    let more : suc k ≤ div_ceil d s = omega arith in
    let times : suc k * s ≤ div_ceil d s * s = mul-le-mul_right s more in
    let high : div_ceil d s * s < d + s = (div_ceil_times d s some).1 in
    omega arith

is_counted : (d s k : ℕ) → 0 < s → k * s < d → k < div_ceil d s
is_counted d s k some below =
    let high : d ≤ div_ceil d s * s = (div_ceil_times d s some).0 in
    let times : s * k < s * div_ceil d s = omega arith in
    lt_of_mul-lt-mul_left s times

counted : (gap : ℤ) (s k : ℕ) → 0 < s → (k < multiples_below gap s) ↔ (pos (k * s) <ℤ gap)
counted (pos d) s k some = (
  (λ less. let below : k * s < d = lies_below d s k some less in omega (arith, ints)),
  (λ low. is_counted d s k some (omega (arith, ints, low))),
)
counted (negsuc d) s k some = ((λ less. absurd (omega arith)), (λ low. absurd (omega (arith, ints, low))))

pub end_law : RangeEndLaw
end_law first end (pos zero) k some = absurd (some refl)
end_law first end (pos (suc n)) k some =
    let both = counted (end -ℤ first) (suc n) k (omega arith) in (
      (λ less. let low : pos (k * suc n) <ℤ (end -ℤ first) = both.0 less in omega (arith, ints)),
      (λ low. both.1 (omega (arith, ints, low))),
    )
end_law first end (negsuc n) k some =
    let both = counted (first -ℤ end) (suc n) k (omega arith) in
    let turned : pos k *ℤ negsuc n ≡ neg_ℤ (pos (k * suc n)) = *ℤ-negsuc (pos k) n in (
      (λ less. let low : pos (k * suc n) <ℤ (first -ℤ end) = both.0 less in omega (arith, ints)),
      (λ low. both.1 (omega (arith, ints, low))),
    )

-- ---- the items

as_many : (first step : ℤ) (n : ℕ) → length (items_from first step n) ≡ n
as_many first step zero = refl
as_many first step (suc n) = ap suc (as_many (first +ℤ step) step n)

item_at : (first step : ℤ) (n k : ℕ) → k < n → slice_get (items_from first step n) k ≡ Some (first +ℤ pos k *ℤ step)
item_at first step zero k less = absurd (omega arith)
item_at first step (suc n) zero less =
    let none : pos zero *ℤ step ≡ pos zero = zero-*ℤ step in
    ap Some (let e : first ≡ first +ℤ pos zero *ℤ step = omega (arith, ints) in e)
item_at first step (suc n) (suc k) less =
    let more : pos (suc k) *ℤ step ≡ pos k *ℤ step +ℤ step = suc_ℤ-*ℤ (pos k) step in
    item_at (first +ℤ step) step n k (omega arith)
    ∙ ap Some (let e : (first +ℤ step) +ℤ pos k *ℤ step ≡ first +ℤ pos (suc k) *ℤ step = omega (arith, ints) in e)

pub items_law : RangeItemsLaw
items_law first step n = (as_many first step n, item_at first step n)
