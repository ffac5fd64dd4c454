-- One step through the operators of a pipe.
use Rattle.std.proofs.Common.{◌≡◌, ℕ, zero, suc, ◌+◌, ◌-◌, ◌<◌, ◌≤◌, ◌++◌, Bool, true, false, ltb, List, [], ◌∷◌, Option, drop, length, option_map, slice_get, refl, sym, ap, subst, ◌∙◌, arith, length-append, ltb-true, ltb-false, zero-add}
use Rattle.std.specs.Option.{unwrap_or}
use Rattle.std.proofs.lemmas.Grind.{flat_map-append}
use Rattle.std.proofs.lemmas.List.Sums.{sum_by-append}
use Rattle.std.proofs.lemmas.Option.{slice_get_past}
use Rattle.tx_values.specs.declared.row.Row.{Row}
use Rattle.tx_names.specs.Function.{Function}
use Rattle.tx_records.specs.declared.csv_source.CsvSource.{CsvSource}
use Rattle.tx_report.specs.declared.report.Entry.{Entry}
use Rattle.tx_pipe.specs.Pipe.{PipeNode}
use Rattle.tx_pipe.specs.Column.{Schema}
use Rattle.tx_pipe.specs.Lawful.{uses}
use Rattle.tx_plain.specs.declared.stored.Stored.{Stored}
use Rattle.tx_plain.specs.Operators.{Made, made_behind, made_next, rows_at, row_wise}
use Rattle.tx_plain.specs.Pipeline.{all_made, entries_of, evaluate, evaluations_of}
use Rattle.tx_plain.specs.Laws.{last_rows, one_by_one}
use Rattle.tx_plain.specs.Calls.Holding.{rows_stored, rows_stored_at}
use Rattle.tx_plain.specs.Calls.Standing.{Worked}

-- ---- places in two lists

pub get_front : {X : Type 0} (xs ys : List X) (i : ℕ) → i < length xs → slice_get (xs ++ ys) i ≡ slice_get xs i
get_front [] ys i h = absurd (omega (arith, h))
get_front (x ∷ xs) ys zero h = refl
get_front (x ∷ xs) ys (suc i) h = get_front xs ys i (omega (arith, h))

pub get_behind : {X : Type 0} (xs ys : List X) (j : ℕ) → slice_get (xs ++ ys) (length xs + j) ≡ slice_get ys j
get_behind [] ys j = ap (slice_get ys) (zero-add j)
get_behind (x ∷ xs) ys j = ap (slice_get (x ∷ (xs ++ ys))) (moved (length xs) j) ∙ get_behind xs ys j
  where
    moved : (k l : ℕ) → suc k + l ≡ suc (k + l)
    moved k l = omega arith

-- the rows of a number in both, where they are those of its number in each part
pub rows_both : (taken extra : List Stored) (made ms : List Made) → length taken ≡ length made → length extra ≡ length ms → (k : ℕ)
    → ((place : ℕ) → k ≡ suc place → place < length made → rows_stored_at taken k ≡ rows_at made k)
    → ((j : ℕ) → k ≡ suc (length made + j) → j < length ms → unwrap_or (option_map rows_stored (slice_get extra j)) [] ≡ unwrap_or (option_map (λ (m : Made). m.rows) (slice_get ms j)) [])
    → rows_stored_at (taken ++ extra) k ≡ rows_at (made ++ ms) k
rows_both taken extra made ms same sizes zero front behind = refl
rows_both taken extra made ms same sizes (suc place) front behind = by (ltb place (length made)) refl
  where
    by : (b : Bool) → ltb place (length made) ≡ b → rows_stored_at (taken ++ extra) (suc place) ≡ rows_at (made ++ ms) (suc place)
    by true e =
        let less : place < length made = ltb-true place (length made) e in
        ap (λ (o : Option Stored). unwrap_or (option_map rows_stored o) []) (get_front taken extra place (omega (arith, less, same)))
        ∙ front place refl less
        ∙ sym (ap (λ (o : Option Made). unwrap_or (option_map (λ (m : Made). m.rows) o) []) (get_front made ms place less))
    by false e =
        let past : length made ≤ place = ltb-false place (length made) e in
        let sum : place ≡ length made + (place - length made) = omega (arith, past) in
        let other : place ≡ length taken + (place - length made) = omega (arith, past, same) in
        ap (λ (n : ℕ). rows_stored_at (taken ++ extra) (suc n)) other
        ∙ ap (λ (o : Option Stored). unwrap_or (option_map rows_stored o) []) (get_behind taken extra (place - length made))
        ∙ within (ltb (place - length made) (length ms)) refl sum
        ∙ sym (ap (λ (n : ℕ). rows_at (made ++ ms) (suc n)) sum
        ∙ ap (λ (o : Option Made). unwrap_or (option_map (λ (m : Made). m.rows) o) []) (get_behind made ms (place - length made)))
      where
        within : (b : Bool) → ltb (place - length made) (length ms) ≡ b → place ≡ length made + (place - length made)
            → unwrap_or (option_map rows_stored (slice_get extra (place - length made))) [] ≡ unwrap_or (option_map (λ (m : Made). m.rows) (slice_get ms (place - length made))) []
        within true h sum = behind (place - length made) (ap suc sum) (ltb-true (place - length made) (length ms) h)
        within false h sum =
            let out : length ms ≤ place - length made = ltb-false (place - length made) (length ms) h in
            ap (λ (o : Option Stored). unwrap_or (option_map rows_stored o) []) (slice_get_past extra (place - length made) (omega (arith, out, sizes)))
            ∙ sym (ap (λ (o : Option Made). unwrap_or (option_map (λ (m : Made). m.rows) o) []) (slice_get_past ms (place - length made) out))

pub entries-append : (made ms : List Made) → entries_of (made ++ ms) ≡ entries_of made ++ entries_of ms
entries-append made ms = flat_map-append (λ (m : Made). m.entries) made ms

pub evaluations-append : (made ms : List Made) → evaluations_of (made ++ ms) ≡ evaluations_of made + evaluations_of ms
evaluations-append made ms = sum_by-append (λ (m : Made). m.evaluations) made ms

-- no operator takes evaluations back
pub evaluations-more : (sources : List (Option CsvSource)) (schemas : List Schema) (before : List Made) (ns : List (PipeNode (Function ℕ)))
    → evaluations_of before ≤ evaluations_of (made_behind evaluate sources schemas before ns)
evaluations-more sources schemas before [] = omega arith
evaluations-more sources schemas before (n ∷ ns) =
    let m : Made = made_next evaluate sources schemas before n in
    let more : evaluations_of (before ++ m ∷ []) ≤ evaluations_of (made_behind evaluate sources schemas (before ++ m ∷ []) ns)
    = evaluations-more sources schemas (before ++ m ∷ []) ns in
    omega (arith, more, evaluations-append before (m ∷ []))

-- ---- the step

module _ (sources : List (Option CsvSource)) (schemas : List Schema) (p : List (PipeNode (Function ℕ))) (at start now : ℕ) (kept : List Stored) (told : List Entry) where
  pub advance : (w : Worked sources schemas p at start now kept told) (ms : List Made) (taken extra : List Stored) (further : List Entry) (later : ℕ)
      → length taken ≡ length kept → length extra ≡ length ms → further ≡ told ++ entries_of ms → later ≡ now + evaluations_of ms
      → made_behind evaluate sources schemas (w.made ++ ms) (drop (at + length ms) p) ≡ made_behind evaluate sources schemas w.made (drop at p)
      → ((k : ℕ) → 1 ≤ uses k (drop (at + length ms) p) → rows_stored_at (taken ++ extra) k ≡ rows_at (w.made ++ ms) k)
      → Worked sources schemas p (at + length ms) start later (taken ++ extra) further
  advance w ms taken extra further later same sizes entries steps all rows =
      let made : length w.made ≡ at = w.len in
      let total : length (w.made ++ ms) ≡ at + length ms = length-append w.made ms ∙ ap (λ (n : ℕ). n + length ms) made in
      record {
        made = w.made ++ ms;
        len = total;
        stands = record {
          len = length-append taken extra ∙ ap (λ (n : ℕ). n + length extra) (same ∙ w.stands.len) ∙ ap (λ (n : ℕ). length w.made + n) sizes ∙ sym (length-append w.made ms);
          entries = entries ∙ ap (λ (l : List Entry). l ++ entries_of ms) w.stands.entries ∙ sym (entries-append w.made ms);
          rows = λ k used. rows k (subst (λ (n : ℕ). 1 ≤ uses k (drop n p)) total used);
        };
        all = all ∙ w.all;
        steps = omega (arith, evaluations-append w.made ms, w.steps, steps);
      }

  -- the evaluations of the step are among those of the whole
  pub among : (w : Worked sources schemas p at start now kept told) (ms : List Made) (later : ℕ) → later ≤ now + evaluations_of ms
      → made_behind evaluate sources schemas (w.made ++ ms) (drop (at + length ms) p) ≡ made_behind evaluate sources schemas w.made (drop at p)
      → later ≤ start + evaluations_of (all_made evaluate sources schemas p)
  among w ms later most all =
      let whole : evaluations_of (w.made ++ ms) ≤ evaluations_of (made_behind evaluate sources schemas (w.made ++ ms) (drop (at + length ms) p))
      = evaluations-more sources schemas (w.made ++ ms) (drop (at + length ms) p) in
      let same : evaluations_of (made_behind evaluate sources schemas (w.made ++ ms) (drop (at + length ms) p)) ≡ evaluations_of (all_made evaluate sources schemas p)
      = ap evaluations_of (all ∙ w.all) in
      omega (arith, evaluations-append w.made ms, w.steps, most, whole, same)

-- ---- the last of a run

pub run-length : (schemas : List Schema) (number : ℕ) (ns : List (PipeNode (Function ℕ))) (rows : List Row) → length (one_by_one evaluate schemas number ns rows) ≡ length ns
run-length schemas number [] rows = refl
run-length schemas number (n ∷ ns) rows = ap suc (run-length schemas (number + 1) ns (row_wise evaluate schemas number n rows).rows)

pub last-is : (rows : List Row) (m : Made) (ms : List Made) → last_rows rows (m ∷ ms) ≡ unwrap_or (option_map (λ (k : Made). k.rows) (slice_get (m ∷ ms) (length ms))) []
last-is rows m [] = refl
last-is rows m (k ∷ ms) = last-is m.rows k ms

-- ---- the start, and what any number of steps took

none_there : (k : ℕ) → rows_stored_at [] k ≡ rows_at [] k
none_there zero = refl
none_there (suc place) =
    ap (λ (o : Option Stored). unwrap_or (option_map rows_stored o) []) (slice_get_past [] place (omega arith))
    ∙ sym (ap (λ (o : Option Made). unwrap_or (option_map (λ (m : Made). m.rows) o) []) (slice_get_past [] place (omega arith)))

pub start_worked : (sources : List (Option CsvSource)) (schemas : List Schema) (p : List (PipeNode (Function ℕ))) (now : ℕ) (kept : List Stored) (told : List Entry) → kept ≡ [] → told ≡ []
    → Worked sources schemas p 0 now now kept told
start_worked sources schemas p now kept told e f =
    let none : List Made = [] in
    record {
      made = none;
      len = refl;
      stands = record { len = ap length e; entries = f; rows = λ k used. ap (λ (l : List Stored). rows_stored_at l k) e ∙ none_there k };
      all = refl;
      steps = omega arith;
    }

pub worked_most : (sources : List (Option CsvSource)) (schemas : List Schema) (p : List (PipeNode (Function ℕ))) (at start now : ℕ) (kept : List Stored) (told : List Entry)
    → Worked sources schemas p at start now kept told → now ≤ start + evaluations_of (all_made evaluate sources schemas p)
worked_most sources schemas p at start now kept told w =
    let more = evaluations-more sources schemas w.made (drop at p) in
    let same : evaluations_of (made_behind evaluate sources schemas w.made (drop at p)) ≡ evaluations_of (all_made evaluate sources schemas p) = ap evaluations_of w.all in
    omega (arith, more, same, w.steps)
