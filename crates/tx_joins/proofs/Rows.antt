-- Lists of rows, taken apart at a row.
use Rattle.std.proofs.Common.{◌≡◌, ◌+◌, ◌-◌, ◌++◌, ◌<◌, ◌≤◌, ℕ, Bool, true, false, cond, not, List, [], ◌∷◌, drop, filter, get_or, length, map, take, add-one, refl, sym, ap, ◌∙◌, arith}
use Rattle.std.proofs.Math.Seq.{drop-cons, take-add}
use Rattle.std.proofs.lemmas.List.{drop-append-le, drop-take, length-drop, length-take-le, map-append, take-append-drop, take_more}
use Rattle.std.proofs.lemmas.List.Elements.{filter-append}
use Rattle.tx_values.specs.declared.row.Row.{Row}
use Rattle.tx_joins.specs.Unique.{has_keys, keyless_rows}

-- the row at a place in front of those behind it
pub split_at : (all : List Row) (place : ℕ) (row : Row) → place < length all → row ≡ get_or all place row → row ∷ drop (place + 1) all ≡ drop place all
split_at all place row within at =
    ap (λ (r : Row). r ∷ drop (place + 1) all) at ∙ ap (λ (n : ℕ). get_or all place row ∷ drop n all) (add-one place) ∙ sym (drop-cons all place row within)

-- the first row's origin, where it has no key, and then those of the others
pub keyless_rows-front : (row : Row) (rows : List Row) → keyless_rows (row ∷ []) ++ keyless_rows rows ≡ keyless_rows (row ∷ rows)
keyless_rows-front row rows = by (not (has_keys row))
  where
    others : List Row
    others = filter (λ (r : Row). not (has_keys r)) rows

    by : (b : Bool) → map (λ (r : Row). r.origin) (cond b (row ∷ []) []) ++ map (λ (r : Row). r.origin) others ≡ map (λ (r : Row). r.origin) (cond b (row ∷ others) others)
    by true = refl
    by false = refl

-- the rows with keys up to a place, and the row there, where it has one
pub keyed-next : (all : List Row) (place : ℕ) (row : Row) → place < length all → row ≡ get_or all place row
    → filter has_keys (take (place + 1) all) ≡ filter has_keys (take place all) ++ filter has_keys (row ∷ [])
keyed-next all place row within at =
    ap (filter has_keys) (take_more all place row within ∙ ap (λ (r : Row). take place all ++ r ∷ []) (sym at))
    ∙ filter-append has_keys (take place all) (row ∷ [])

-- the row at a place, where it has keys, and those behind it
pub keyed-behind : (all : List Row) (place : ℕ) (row : Row) → place < length all → row ≡ get_or all place row
    → filter has_keys (row ∷ []) ++ filter has_keys (drop (place + 1) all) ≡ filter has_keys (drop place all)
keyed-behind all place row within at =
    sym (filter-append has_keys (row ∷ []) (drop (place + 1) all)) ∙ ap (filter has_keys) (split_at all place row within at)

-- ---- batches: the rows from one place to another

pub part-length : (all : List Row) (from to : ℕ) → from < to → to ≤ length all → from + length (take (to - from) (drop from all)) ≡ to
part-length all from to rises within =
    let room : length (drop from all) ≡ length all - from = length-drop from all in
    let part : length (take (to - from) (drop from all)) ≡ to - from = length-take-le (to - from) (drop from all) (omega (arith, room, rises, within)) in
    omega (arith, part, rises)

-- a batch in front of those behind it
pub part-behind : (all : List Row) (from to : ℕ) → from < to → to ≤ length all → take (to - from) (drop from all) ++ drop to all ≡ drop from all
part-behind all from to rises within =
    let sum : from + (to - from) ≡ to = omega (arith, rises) in
    let part : take (to - from) (drop from all) ≡ drop from (take to all)
    = sym (drop-take from (to - from) all) ∙ ap (λ (n : ℕ). drop from (take n all)) sum in
    let front : length (take to all) ≡ to = length-take-le to all within in
    ap (λ (rows : List Row). rows ++ drop to all) part
    ∙ sym (drop-append-le from (take to all) (drop to all) (omega (arith, front, rises)))
    ∙ ap (drop from) (take-append-drop to all)

-- what is made of those up to a batch, and of the batch
pub map-part : {B : Type 0} (f : Row → B) (all : List Row) (from to : ℕ) → from < to
    → map f (take from all) ++ map f (take (to - from) (drop from all)) ≡ map f (take to all)
map-part f all from to rises =
    let sum : from + (to - from) ≡ to = omega (arith, rises) in
    sym (map-append f (take from all) (take (to - from) (drop from all)))
    ∙ ap (map f) (sym (take-add from (to - from) all) ∙ ap (λ (n : ℕ). take n all) sum)
