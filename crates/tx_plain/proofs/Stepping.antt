-- What one step through the operators of a lawful pipe takes is taken by no later one.
use Rattle.std.proofs.Common.{◌≡◌, ℕ, zero, suc, ◌+◌, ◌-◌, ◌<◌, ◌≤◌, ◌==◌, ◌++◌, ◌⊎◌, inl, inr, Bool, true, false, List, [], ◌∷◌, Option, count_by, drop, length, option_map, replicate, slice_get, refl, sym, ap, subst, ◌∙◌, arith, append-nil, length-append, ltb, ltb-true, ltb-false}
use Rattle.std.specs.Option.{unwrap_or}
use Rattle.std.proofs.lemmas.List.{length-drop, length-replicate, length_push}
use Rattle.tx_values.specs.declared.row.Row.{Row}
use Rattle.tx_names.specs.Function.{Function}
use Rattle.tx_records.specs.declared.csv_source.CsvSource.{CsvSource}
use Rattle.tx_report.specs.declared.report.Entry.{Entry}
use Rattle.tx_pipe.specs.Pipe.{PipeNode}
use Rattle.tx_pipe.specs.Column.{Schema}
use Rattle.tx_pipe.specs.Lawful.{inputs_of, is_fed, Lawful, uses}
use Rattle.tx_plain.specs.declared.stored.Stored.{Stored}
use Rattle.tx_plain.specs.declared.stored.Stored.TheVariants as stored
use Rattle.tx_plain.specs.Operators.{Made, made_behind, made_next, operated, right_input, row_wise, rows_at}
use Rattle.tx_plain.specs.Pipeline.{all_made, entries_of, evaluate, evaluations_of}
use Rattle.tx_plain.specs.Laws.{follow, is_row_wise, is_run, last_rows, one_by_one}
use Rattle.tx_plain.specs.Calls.Holding.{rows_stored, rows_stored_at}
use Rattle.tx_plain.specs.Calls.Standing.{Stands, Worked}
use Rattle.tx_plain.proofs.Advancing.{advance, among, get_behind, last-is, rows_both, run-length}
use Rattle.tx_plain.proofs.RunLemmas.{both, runs}
use Rattle.tx_plain.proofs.Uses.{fed_at, follow_uses, left_by, right_by, taken_once, uses-append, uses-cons, uses_split}

module _ (p : List (PipeNode (Function ℕ))) (law : Lawful p) (at : ℕ) (n : PipeNode (Function ℕ)) (ns rest : List (PipeNode (Function ℕ))) (cut : drop at p ≡ (n ∷ ns) ++ rest) where
  pub size : at + length (n ∷ ns) ≤ length p
  size =
      let whole : length (drop at p) ≡ length p - at = length-drop at p in
      let parts : length (drop at p) ≡ length (n ∷ ns) + length rest = ap length cut ∙ length-append (n ∷ ns) rest in
      let some : length (n ∷ ns) ≡ suc (length ns) = refl in
      omega (arith, whole, parts, some)

  pub not_twice : (k : ℕ) → 1 ≤ k → k < length p → 1 ≤ uses k (n ∷ ns) → 1 ≤ uses k rest → ⊥
  not_twice k some less used later = let none : uses k rest ≡ 0 = taken_once p at k (n ∷ ns) rest cut (law.once k some less) used in omega (arith, none, later)

  more_than_once : (k : ℕ) → uses k p ≡ 1 → 2 ≤ uses k (n ∷ ns) → ⊥
  more_than_once k once two = omega (arith, once, two, uses_split p at k ((n ∷ ns) ++ rest) cut, uses-append k (n ∷ ns) rest)

  fed : is_fed (1 + at) n ≡ true
  fed = fed_at p 1 at n (ns ++ rest) law.inputs cut

  used_here : (k : ℕ) → 1 ≤ count_by (λ i. i == k) (inputs_of n) → 1 ≤ uses k (n ∷ ns)
  used_here k h = omega (arith, h, uses-cons k n ns)

  used_from : (k : ℕ) → 1 ≤ uses k (n ∷ ns) → 1 ≤ uses k (drop at p)
  used_from k h = omega (arith, h, uses-append k (n ∷ ns) rest, ap (uses k) cut)

  used_later : (k : ℕ) → 1 ≤ uses k rest → 1 ≤ uses k (drop at p)
  used_later k h = omega (arith, h, uses-append k (n ∷ ns) rest, ap (uses k) cut)

  -- a later input is neither of this operator's
  pub not_left : (k : ℕ) → 1 ≤ k → k ≤ at → 1 ≤ uses k rest → k ≡ n.input → ⊥
  not_left k some less later same = by (left_by (1 + at) n.operation n.input fed)
    where
      by : ((n.input ≡ 0) ⊎ ((1 ≤ n.input) × (n.input < 1 + at) × (1 ≤ count_by (λ i. i == n.input) (inputs_of n)))) → ⊥
      by (inl none) = absurd (omega (arith, none, same, some))
      by (inr h) = not_twice n.input h.0 (omega (arith, h.1, size)) (used_here n.input h.2) (subst (λ (j : ℕ). 1 ≤ uses j rest) same later)

  pub not_right : (k : ℕ) → 1 ≤ k → k ≤ at → 1 ≤ uses k rest → k ≡ right_input n.operation → ⊥
  not_right k some less later same = by (right_by (1 + at) n.operation n.input fed)
    where
      by : ((right_input n.operation ≡ 0) ⊎ ((1 ≤ right_input n.operation) × (right_input n.operation < 1 + at) × (1 ≤ count_by (λ i. i == right_input n.operation) (inputs_of n))
          × (n.input ≡ right_input n.operation → 2 ≤ count_by (λ i. i == right_input n.operation) (inputs_of n)))) → ⊥
      by (inl none) = absurd (omega (arith, none, same, some))
      by (inr h) = not_twice (right_input n.operation) h.0 (omega (arith, h.1, size)) (used_here (right_input n.operation) h.2) (subst (λ (j : ℕ). 1 ≤ uses j rest) same later)

  module _ (made : List Made) (kept : List Stored) (told : List Entry) (made_len : length made ≡ at) (stands : Stands p made kept told) where
    rows_kept : (k : ℕ) → 1 ≤ uses k (drop at p) → rows_stored_at kept k ≡ rows_at made k
    rows_kept k h = stands.rows k (subst (λ (j : ℕ). 1 ≤ uses k (drop j p)) (sym made_len) h)

    -- the rows of its inputs
    pub lefts : rows_stored_at kept n.input ≡ rows_at made n.input
    lefts = by (left_by (1 + at) n.operation n.input fed)
      where
        by : ((n.input ≡ 0) ⊎ ((1 ≤ n.input) × (n.input < 1 + at) × (1 ≤ count_by (λ i. i == n.input) (inputs_of n)))) → rows_stored_at kept n.input ≡ rows_at made n.input
        by (inl none) = ap (rows_stored_at kept) none ∙ sym (ap (rows_at made) none)
        by (inr h) = rows_kept n.input (used_from n.input (used_here n.input h.2))

    pub rights : (taken : List Stored) → ((k : ℕ) → (k ≡ n.input → ⊥) → rows_stored_at taken k ≡ rows_stored_at kept k)
        → rows_stored_at taken (right_input n.operation) ≡ rows_at made (right_input n.operation)
    rights taken others = by (right_by (1 + at) n.operation n.input fed)
      where
        twice : uses (right_input n.operation) p ≡ 1 → 2 ≤ count_by (λ i. i == right_input n.operation) (inputs_of n) → ⊥
        twice once two = more_than_once (right_input n.operation) once (omega (arith, two, uses-cons (right_input n.operation) n ns))

        by : ((right_input n.operation ≡ 0) ⊎ ((1 ≤ right_input n.operation) × (right_input n.operation < 1 + at) × (1 ≤ count_by (λ i. i == right_input n.operation) (inputs_of n))
            × (n.input ≡ right_input n.operation → 2 ≤ count_by (λ i. i == right_input n.operation) (inputs_of n)))) → rows_stored_at taken (right_input n.operation) ≡ rows_at made (right_input n.operation)
        by (inl none) = ap (rows_stored_at taken) none ∙ sym (ap (rows_at made) none)
        by (inr h) =
            let once : uses (right_input n.operation) p ≡ 1 = law.once (right_input n.operation) h.0 (omega (arith, h.1, size)) in
            let other : right_input n.operation ≡ n.input → ⊥
            = λ same. twice once (h.3 (sym same)) in
            others (right_input n.operation) other ∙ rows_kept (right_input n.operation) (used_from (right_input n.operation) (used_here (right_input n.operation) h.2))

    -- the rows that later operators take, behind a step
    pub rows_behind : (taken extra : List Stored) (ms : List Made) → length taken ≡ length kept → length extra ≡ length ms
        → ((k : ℕ) → (k ≡ n.input → ⊥) → (k ≡ right_input n.operation → ⊥) → rows_stored_at taken k ≡ rows_stored_at kept k)
        → ((j : ℕ) → 1 ≤ uses (suc (at + j)) rest → j < length ms → unwrap_or (option_map rows_stored (slice_get extra j)) [] ≡ unwrap_or (option_map (λ (m : Made). m.rows) (slice_get ms j)) [])
        → (k : ℕ) → 1 ≤ uses k rest → rows_stored_at (taken ++ extra) k ≡ rows_at (made ++ ms) k
    rows_behind taken extra ms same sizes others new k used =
        rows_both taken extra made ms (same ∙ stands.len) sizes k
        (λ place e less.
        let within : k ≤ at = omega (arith, e, less, made_len) in
        let some : 1 ≤ k = omega (arith, e) in
        others k (not_left k some within used) (not_right k some within used) ∙ rows_kept k (used_later k used))
        (λ j e less.
        new j (subst (λ (i : ℕ). 1 ≤ uses i rest) (e ∙ ap (λ (i : ℕ). suc (i + j)) made_len) used) less)

-- ---- an operator that takes whole lists

pub next_is : (sources : List (Option CsvSource)) (schemas : List Schema) (made : List Made) (n : PipeNode (Function ℕ)) (number : ℕ) (ls rs : List Row)
    → number ≡ length made + 1 → ls ≡ rows_at made n.input → rs ≡ rows_at made (right_input n.operation)
    → operated evaluate sources schemas number n n.operation ls rs ≡ made_next evaluate sources schemas made n
next_is sources schemas made n number ls rs e f g =
    ap (λ (k : ℕ). operated evaluate sources schemas k n n.operation ls rs) e
    ∙ ap (λ (rows : List Row). operated evaluate sources schemas (length made + 1) n n.operation rows rs) f
    ∙ ap (operated evaluate sources schemas (length made + 1) n n.operation (rows_at made n.input)) g

module _ (sources : List (Option CsvSource)) (schemas : List Schema) (p : List (PipeNode (Function ℕ))) (law : Lawful p) (at start now : ℕ) (kept : List Stored) (told : List Entry)
    (n : PipeNode (Function ℕ)) (w : Worked sources schemas p at start now kept told) where
  module _ (cut : drop at p ≡ n ∷ drop (at + 1) p) where
    all_whole : made_behind evaluate sources schemas (w.made ++ made_next evaluate sources schemas w.made n ∷ []) (drop (at + 1) p) ≡ made_behind evaluate sources schemas w.made (drop at p)
    all_whole = sym (ap (made_behind evaluate sources schemas w.made) cut)

    pub whole : (taken : List Stored) (x : Stored) (further : List Entry) (later : ℕ) → length taken ≡ length kept
        → ((k : ℕ) → (k ≡ n.input → ⊥) → (k ≡ right_input n.operation → ⊥) → rows_stored_at taken k ≡ rows_stored_at kept k)
        → rows_stored x ≡ (made_next evaluate sources schemas w.made n).rows → further ≡ told ++ (made_next evaluate sources schemas w.made n).entries
        → later ≡ now + (made_next evaluate sources schemas w.made n).evaluations
        → Worked sources schemas p (at + 1) start later (taken ++ x ∷ []) further
    whole taken x further later same others rows entries steps =
        advance sources schemas p at start now kept told w (made_next evaluate sources schemas w.made n ∷ []) taken (x ∷ []) further later same refl
        (entries ∙ ap (λ (l : List Entry). told ++ l) (sym (append-nil (made_next evaluate sources schemas w.made n).entries)))
        (omega (arith, steps))
        all_whole
        (rows_behind p law at n [] (drop (at + 1) p) cut w.made kept told w.len w.stands taken (x ∷ []) (made_next evaluate sources schemas w.made n ∷ []) same refl others new)
      where
        new : (j : ℕ) → 1 ≤ uses (suc (at + j)) (drop (at + 1) p) → j < 1
            → unwrap_or (option_map rows_stored (slice_get (x ∷ []) j)) [] ≡ unwrap_or (option_map (λ (k : Made). k.rows) (slice_get (made_next evaluate sources schemas w.made n ∷ []) j)) []
        new zero used less = rows
        new (suc j) used less = absurd (omega (arith, less))

    -- the operator on the rows that were taken
    pub next_of : (taken : List Stored) (ls rs : List Row) (r : ℕ) → r ≡ right_input n.operation → ls ≡ rows_stored_at kept n.input
        → ((k : ℕ) → (k ≡ n.input → ⊥) → rows_stored_at taken k ≡ rows_stored_at kept k) → rs ≡ rows_stored_at taken r
        → operated evaluate sources schemas (at + 1) n n.operation ls rs ≡ made_next evaluate sources schemas w.made n
    next_of taken ls rs r right left others e =
        next_is sources schemas w.made n (at + 1) ls rs (sym (ap (λ (k : ℕ). k + 1) w.len))
        (left ∙ lefts p law at n [] (drop (at + 1) p) cut w.made kept told w.len w.stands)
        (e ∙ ap (rows_stored_at taken) right ∙ rights p law at n [] (drop (at + 1) p) cut w.made kept told w.len w.stands taken others)

    pub whole_most : (later : ℕ) → later ≤ now + (made_next evaluate sources schemas w.made n).evaluations → later ≤ start + evaluations_of (all_made evaluate sources schemas p)
    whole_most later most = among sources schemas p at start now kept told w (made_next evaluate sources schemas w.made n ∷ []) later (omega (arith, most)) all_whole

  -- ---- a run

  module _ (ns rest : List (PipeNode (Function ℕ))) (cut : drop at p ≡ (n ∷ ns) ++ rest) (behind : drop (at + length (n ∷ ns)) p ≡ rest) (run : is_run (at + 1) (n ∷ ns) ≡ true) where
    run_made : is_run (length w.made + 1) (n ∷ ns) ≡ true
    run_made = ap (λ (k : ℕ). is_run (k + 1) (n ∷ ns)) w.len ∙ run

    all_run : made_behind evaluate sources schemas (w.made ++ one_by_one evaluate schemas (at + 1) (n ∷ ns) (rows_at w.made n.input)) (drop (at + length (one_by_one evaluate schemas (at + 1) (n ∷ ns) (rows_at w.made n.input))) p)
        ≡ made_behind evaluate sources schemas w.made (drop at p)
    all_run =
        ap (λ (k : ℕ). made_behind evaluate sources schemas (w.made ++ one_by_one evaluate schemas (at + 1) (n ∷ ns) (rows_at w.made n.input)) (drop (at + k) p)) (run-length schemas (at + 1) (n ∷ ns) (rows_at w.made n.input))
        ∙ ap (made_behind evaluate sources schemas (w.made ++ one_by_one evaluate schemas (at + 1) (n ∷ ns) (rows_at w.made n.input))) behind
        ∙ ap (λ (k : ℕ). made_behind evaluate sources schemas (w.made ++ one_by_one evaluate schemas (k + 1) (n ∷ ns) (rows_at w.made n.input)) rest) (sym w.len)
        ∙ sym (runs sources schemas w.made n ns rest run_made)
        ∙ sym (ap (made_behind evaluate sources schemas w.made) cut)

    pub running : (taken : List Stored) (rows : List Row) (further : List Entry) (later : ℕ) → length taken ≡ length kept
        → ((k : ℕ) → (k ≡ n.input → ⊥) → rows_stored_at taken k ≡ rows_stored_at kept k)
        → rows ≡ last_rows (rows_at w.made n.input) (one_by_one evaluate schemas (at + 1) (n ∷ ns) (rows_at w.made n.input))
        → further ≡ told ++ entries_of (one_by_one evaluate schemas (at + 1) (n ∷ ns) (rows_at w.made n.input))
        → later ≡ now + evaluations_of (one_by_one evaluate schemas (at + 1) (n ∷ ns) (rows_at w.made n.input))
        → Worked sources schemas p (at + length (n ∷ ns)) start later (taken ++ (replicate (length ns) (stored.Made []) ++ stored.Made rows ∷ [])) further
    running taken rows further later same others is_last entries steps =
        subst (λ (k : ℕ). Worked sources schemas p (at + k) start later (taken ++ (replicate (length ns) (stored.Made []) ++ stored.Made rows ∷ [])) further)
        (run-length schemas (at + 1) (n ∷ ns) first)
        (advance sources schemas p at start now kept told w ms taken extra further later same extra_size entries steps all_run
        (λ k used.
        rows_behind p law at n ns rest cut w.made kept told w.len w.stands taken extra ms same extra_size (λ j left right. others j left) new k
        (subst (λ (l : List (PipeNode (Function ℕ))). 1 ≤ uses k l) (ap (λ (j : ℕ). drop (at + j) p) (run-length schemas (at + 1) (n ∷ ns) first) ∙ behind) used)))
      where
        first : List Row
        first = rows_at w.made n.input

        ms : List Made
        ms = one_by_one evaluate schemas (at + 1) (n ∷ ns) first

        front : List Stored
        front = replicate (length ns) (stored.Made [])

        extra : List Stored
        extra = front ++ stored.Made rows ∷ []

        front_size : length front ≡ length ns
        front_size = length-replicate (length ns) (stored.Made [])

        extra_size : length extra ≡ length ms
        extra_size =
            let a : length extra ≡ length front + 1 = length_push front (stored.Made rows) in
            let b : length ms ≡ length (n ∷ ns) = run-length schemas (at + 1) (n ∷ ns) first in
            let c : length (n ∷ ns) ≡ suc (length ns) = refl in
            omega (arith, a, b, c, front_size)

        tests : (is_row_wise n.operation ≡ true) × (follow (at + 1) ns ≡ true)
        tests = both (is_row_wise n.operation) (follow (at + 1) ns) run

        new : (j : ℕ) → 1 ≤ uses (suc (at + j)) rest → j < length ms
            → unwrap_or (option_map rows_stored (slice_get extra j)) [] ≡ unwrap_or (option_map (λ (k : Made). k.rows) (slice_get ms j)) []
        new j used less = by (ltb j (length ns)) refl
          where
            total : length ms ≡ suc (length ns)
            total = run-length schemas (at + 1) (n ∷ ns) first

            by : (b : Bool) → ltb j (length ns) ≡ b
                → unwrap_or (option_map rows_stored (slice_get extra j)) [] ≡ unwrap_or (option_map (λ (k : Made). k.rows) (slice_get ms j)) []
            by true e =
                let within : j < length ns = ltb-true j (length ns) e in
                let number : at + 1 + j ≡ suc (at + j) = omega arith in
                let inner : 1 ≤ uses (suc (at + j)) ns = subst (λ (k : ℕ). 1 ≤ uses k ns) number (follow_uses (at + 1) ns tests.1 j within) in
                let mine : 1 ≤ uses (suc (at + j)) (n ∷ ns) = omega (arith, inner, uses-cons (suc (at + j)) n ns) in
                let room : at + length (n ∷ ns) ≤ length p = size p law at n ns rest cut in
                let many : length (n ∷ ns) ≡ suc (length ns) = refl in
                absurd (not_twice p law at n ns rest cut (suc (at + j)) (omega arith) (omega (arith, room, many, within)) mine used)
            by false e =
                let past : length ns ≤ j = ltb-false j (length ns) e in
                let here : j ≡ length ns = omega (arith, past, less, total) in
                let place : j ≡ length front + 0 = omega (arith, here, front_size) in
                ap (λ (k : ℕ). unwrap_or (option_map rows_stored (slice_get extra k)) []) place
                ∙ ap (λ (o : Option Stored). unwrap_or (option_map rows_stored o) []) (get_behind front (stored.Made rows ∷ []) 0)
                ∙ is_last
                ∙ last-is first (row_wise evaluate schemas (at + 1) n first) (one_by_one evaluate schemas (at + 1 + 1) ns (row_wise evaluate schemas (at + 1) n first).rows)
                ∙ ap (λ (k : ℕ). unwrap_or (option_map (λ (q : Made). q.rows) (slice_get ms k)) [])
                (run-length schemas (at + 1 + 1) ns (row_wise evaluate schemas (at + 1) n first).rows ∙ sym here)

    pub running_most : (later : ℕ) → later ≤ now + evaluations_of (one_by_one evaluate schemas (at + 1) (n ∷ ns) (rows_at w.made n.input)) → later ≤ start + evaluations_of (all_made evaluate sources schemas p)
    running_most later most = among sources schemas p at start now kept told w (one_by_one evaluate schemas (at + 1) (n ∷ ns) (rows_at w.made n.input)) later most all_run
