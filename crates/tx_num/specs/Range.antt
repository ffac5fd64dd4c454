-- The items of a range (Python's built-in types, "Ranges") and the sum of a list (built-in function `sum`), over integers.
use Rattle.std.specs.Prelude.{◌≡◌, ◌≢◌, ◌↔◌, ℕ, zero, suc, ◌<◌, nat_le, Option, Some, None, option_and_then, if◌then◌else◌, List, [], ◌∷◌, length, slice_get, ℤ, pos, negsuc, ◌+ℤ◌, ◌-ℤ◌, ◌*ℤ◌, ◌<ℤ◌}
use Rattle.std.specs.Int.{div_ceil}
use Rattle.tx_num.specs.declared.range.RangeLength.{RangeLength}
use Rattle.tx_num.specs.declared.range.RangeLength.TheVariants.{Count, NoStep, Past}
use Rattle.tx_num.specs.Number.{kept}

-- ---- how many items a range has

-- how many multiples of a step, from 0 on, lie below a distance
abbrev pub multiples_below : ℤ → ℕ → ℕ
multiples_below (pos distance) step = div_ceil distance step
multiples_below (negsuc distance) step = 0

-- from the first item to before the end, by a step that is not 0
abbrev pub count_between : ℤ → ℤ → ℤ → ℕ
count_between first end (pos step) = multiples_below (end -ℤ first) step
count_between first end (negsuc n) = multiples_below (first -ℤ end) (suc n)

abbrev pub most_items : ℕ
most_items = 1048576

abbrev pub count_up_to_most : ℕ → RangeLength
count_up_to_most n = if nat_le n most_items then Count n else Past

-- `len(range(first, end, step))`: no step is 0, and more than so many items are past the profile
abbrev pub range_length : ℤ → ℤ → ℤ → RangeLength
range_length first end (pos zero) = NoStep
range_length first end step = count_up_to_most (count_between first end step)

-- ---- its items: so many from the first one, by the step

abbrev pub items_from : ℤ → ℤ → ℕ → List ℤ
items_from first step zero = []
items_from first step (suc n) = first ∷ items_from (first +ℤ step) step n

-- ---- the sum of a list, added in order, where each sum on the way has 128 bits

abbrev pub sum_from : ℤ → List ℤ → Option ℤ
sum_from total [] = Some total
sum_from total (n ∷ ns) = option_and_then (λ sum. sum_from sum ns) (kept (total +ℤ n))

-- `sum(ns)`
abbrev pub sum_of : List ℤ → Option ℤ
sum_of = sum_from (pos 0)

-- ---- laws: `ranges_stop_before_the_end`

-- a number comes before the end, in the step's direction
abbrev pub IsBefore : ℤ → ℤ → ℤ → Type 0
IsBefore end (pos step) n = n <ℤ end
IsBefore end (negsuc step) n = end <ℤ n

-- the numbers that a range goes through are those at the places below its length
abbrev pub RangeEndLaw : Type 0
RangeEndLaw = (first end step : ℤ) (k : ℕ) → step ≢ pos 0
    → (k < count_between first end step) ↔ IsBefore end step (first +ℤ pos k *ℤ step)

-- it has so many items, and the one at a place is so many steps from the first
abbrev pub RangeItemsLaw : Type 0
RangeItemsLaw = (first step : ℤ) (n : ℕ) → (length (items_from first step n) ≡ n)
    × ((k : ℕ) → k < n → slice_get (items_from first step n) k ≡ Some (first +ℤ pos k *ℤ step))
