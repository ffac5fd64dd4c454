-- What numbers mean to a sequence of so many items: an index, the bounds of a slice, and how often it is repeated (Library
-- Reference, "Common Sequence Operations").
use Rattle.std.specs.Prelude.{ℕ, zero, suc, ◌-◌, ◌^◌, nat_lt, Bool, List, [], ◌∷◌, length, take, drop, reverse, Option, Some, None, if◌then◌else◌, ℤ, pos, negsuc, ◌+ℤ◌, ◌-ℤ◌}
use Rattle.std.specs.Int.{int_max, int_min}

-- the number itself, or 0 for a negative one
abbrev pub natural : ℤ → ℕ
natural (pos n) = n
natural (negsuc n) = 0

-- ---- `s[i]`

-- the place that an index means, counted from the front; a negative one counts from the end, where `negsuc i` is -(i + 1);
-- out of range it means none
abbrev pub place_of : ℕ → ℤ → Option ℕ
place_of count (pos i) = if nat_lt i count then Some i else None
place_of count (negsuc i) = if nat_lt i count then Some (count - suc i) else None

-- ---- `s[i:j:k]`: a walk over the items, `k` places from one to the next, backwards where `k` is negative

-- where a walk may begin and end: forwards from the first item to behind the last, backwards from the last to before the
-- first
abbrev pub least_bound : ℤ → ℤ
least_bound (pos step) = pos 0
least_bound (negsuc step) = negsuc 0

abbrev pub greatest_bound : ℤ → ℕ → ℤ
greatest_bound (pos step) count = pos count
greatest_bound (negsuc step) count = pos count -ℤ pos 1

-- a bound that is given: a negative one counts from the end, and one that is past an end is that end
abbrev pub clamped : ℤ → ℕ → ℤ → ℤ
clamped step count (pos i) = int_min (pos i) (greatest_bound step count)
clamped step count (negsuc i) = int_max (pos count +ℤ negsuc i) (least_bound step)

-- where the walk begins, and before which place it ends; they are the first two numbers of `slice(i, j, k).indices(count)`
abbrev pub start_of : ℤ → ℕ → Option ℤ → ℤ
start_of step count (Some bound) = clamped step count bound
start_of (pos step) count None = least_bound (pos step)
start_of (negsuc step) count None = greatest_bound (negsuc step) count

abbrev pub stop_of : ℤ → ℕ → Option ℤ → ℤ
stop_of step count (Some bound) = clamped step count bound
stop_of (pos step) count None = greatest_bound (pos step) count
stop_of (negsuc step) count None = least_bound (negsuc step)

-- the items from a place to before another
abbrev pub items_between : {A : Type 0} → ℤ → ℤ → List A → List A
items_between from to items = take (natural to - natural from) (drop (natural from) items)

-- the items that are left where `skip` are passed over now, and `gap` between one that is left and the next
abbrev pub spaced : {A : Type 0} → ℕ → ℕ → List A → List A
spaced gap skip [] = []
spaced gap zero (item ∷ items) = item ∷ spaced gap gap items
spaced gap (suc skip) (item ∷ items) = spaced gap skip items

-- the items on a walk from a place to before another
abbrev pub walked : {A : Type 0} → ℤ → ℤ → ℤ → List A → List A
walked (pos step) start stop items = spaced (step - 1) 0 (items_between start stop items)
walked (negsuc gap) start stop items = spaced gap 0 (reverse (items_between (stop +ℤ pos 1) (start +ℤ pos 1) items))

-- the slice of a list, for a step that is not 0 and bounds of which either may be absent
abbrev pub sliced : {A : Type 0} → ℤ → Option ℤ → Option ℤ → List A → List A
sliced step from to items = walked step (start_of step (length items) from) (stop_of step (length items) to) items

-- ---- `s * n`

-- from -2^63 to 2^63 - 1
abbrev pub is_64_bit : ℤ → Bool
is_64_bit (pos n) = nat_lt n (2 ^ 63)
is_64_bit (negsuc n) = nat_lt n (2 ^ 63)

-- how often a sequence is repeated: for a negative number not at all; a number of more than 64 bits says nothing
abbrev pub times_of : ℤ → Option ℕ
times_of n = if is_64_bit n then Some (natural n) else None
