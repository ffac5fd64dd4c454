-- A run of operators as a step through the code's nodes.
use Rattle.std.proofs.Common.{◌≡◌, ℕ, zero, suc, ◌+◌, ◌-◌, ◌<◌, ◌≤◌, ◌++◌, ◌&&◌, Bool, true, List, [], ◌∷◌, Option, Some, drop, get_or, length, map, replicate, slice_get, slice_range, take, refl, sym, ap, subst, ◌∙◌, arith, append_assoc}
use Rattle.std.specs.List.{drop-map, take-map}
use Rattle.std.proofs.lemmas.List.{length-drop, length-take-le}
use Rattle.tx_values.specs.declared.row.Row.{Row}
use Rattle.tx_names.specs.Function.{Function}
use Rattle.tx_records.specs.declared.csv_source.CsvSource.{CsvSource}
use Rattle.tx_report.specs.declared.report.Entry.{Entry}
use Rattle.tx_pipe.specs.declared.pipe.Node.{Node}
use Rattle.tx_pipe.specs.Pipe.{PipeNode, node_of, operator_of, pipe_of}
use Rattle.tx_pipe.specs.Column.{Schema}
use Rattle.tx_pipe.specs.Lawful.{Lawful}
use Rattle.tx_plain.specs.declared.stored.Stored.{Stored}
use Rattle.tx_plain.specs.declared.stored.Stored.TheVariants as stored
use Rattle.tx_plain.specs.Operators.{Made, rows_at}
use Rattle.tx_plain.specs.Pipeline.{all_made, entries_of, evaluate, evaluations_of}
use Rattle.tx_plain.specs.Laws.{follow, is_row_wise, is_run, last_rows, one_by_one}
use Rattle.tx_plain.specs.Calls.Holding.{rows_stored_at}
use Rattle.tx_plain.specs.Calls.Standing.{Worked}
use Rattle.tx_plain.proofs.Cuts.{cut_at, cut_run, part_is, run_front}
use Rattle.tx_plain.proofs.Endings.{nodes_length}
use Rattle.tx_plain.proofs.Places.{get_map}
use Rattle.tx_plain.proofs.Stepping.{lefts, running, running_most}

-- ---- which operators are a run

take_take : {X : Type 0} (k m : ℕ) (xs : List X) → k ≤ length (take m xs) → take k (take m xs) ≡ take k xs
take_take zero m xs h = refl
take_take (suc k) zero xs h = absurd (omega (arith, h))
take_take (suc k) (suc m) [] h = refl
take_take {X} (suc k) (suc m) (x ∷ xs) h = ap (λ (l : List X). x ∷ l) (take_take k m xs (omega (arith, h)))

pub run_here : (nodes : List Node) (at end k : ℕ) (node : Node) → at < length nodes → node ≡ get_or nodes at node → is_row_wise (operator_of node.operator) ≡ true
    → k ≤ length (slice_range nodes (at + 1) end) → follow (at + 1) (take k (pipe_of (slice_range nodes (at + 1) end))) ≡ true
    → is_run (at + 1) (take (1 + k) (drop at (pipe_of nodes))) ≡ true
run_here nodes at end k node less is goes few follows =
    let part : List Node = slice_range nodes (at + 1) end in
    let same : take k (pipe_of part) ≡ take k (drop (at + 1) (pipe_of nodes))
    = take-map node_of k part ∙ ap (map node_of) (take_take k (end - (at + 1)) (drop (at + 1) nodes) few)
    ∙ sym (take-map node_of k (drop (at + 1) nodes)) ∙ ap (take k) (sym (drop-map node_of (at + 1) nodes)) in
    let front : take (1 + k) (drop at (pipe_of nodes)) ≡ node_of node ∷ take k (drop (at + 1) (pipe_of nodes))
    = ap (take (1 + k)) (cut_at nodes at node less is) ∙ ap (λ (j : ℕ). take j (node_of node ∷ drop (at + 1) (pipe_of nodes))) (one_more k) in
    ap (is_run (at + 1)) front
    ∙ ap (λ (b : Bool). b && follow (at + 1) (take k (drop (at + 1) (pipe_of nodes)))) goes
    ∙ sym (ap (follow (at + 1)) same)
    ∙ follows
  where
    one_more : (j : ℕ) → 1 + j ≡ suc j
    one_more j = omega arith

some_injective : {X : Type 0} (x y : X) → Some x ≡ Some y → x ≡ y
some_injective x y e = cc

-- the operator at a place
pub node_there : (nodes : List Node) (at : ℕ) (node : Node) (n : PipeNode (Function ℕ)) → at < length nodes → node ≡ get_or nodes at node → slice_get (pipe_of nodes) at ≡ Some n → n ≡ node_of node
node_there nodes at node n less is e =
    some_injective n (node_of node) (sym e ∙ get_map node_of nodes at node less ∙ ap (λ (x : Node). Some (node_of x)) (sym is))

pub there_is : (nodes : List Node) (at : ℕ) (node : Node) → at < length nodes → node ≡ get_or nodes at node → slice_get (pipe_of nodes) at ≡ Some (node_of node)
there_is nodes at node less is = get_map node_of nodes at node less ∙ ap (λ (x : Node). Some (node_of x)) (sym is)

-- ---- a run

module _ (sources : List (Option CsvSource)) (schemas : List Schema) (nodes : List Node) (law : Lawful (pipe_of nodes)) (at count start now : ℕ) (kept : List Stored) (told : List Entry)
    (node : Node) (some : 1 ≤ count) (within : at + count ≤ length nodes) (is : node ≡ get_or nodes at node) (run : is_run (at + 1) (take count (drop at (pipe_of nodes))) ≡ true)
    (w : Worked sources schemas (pipe_of nodes) at start now kept told) (first : List Row) (input : first ≡ rows_stored_at kept node.input) where
  fronts : take count (drop at (pipe_of nodes)) ≡ node_of node ∷ take (count - 1) (drop (at + 1) (pipe_of nodes))
  fronts = run_front nodes at count node some (omega (arith, some, within)) is

  cut : drop at (pipe_of nodes) ≡ (node_of node ∷ take (count - 1) (drop (at + 1) (pipe_of nodes))) ++ drop (at + count) (pipe_of nodes)
  cut = cut_run (pipe_of nodes) at count (node_of node) (take (count - 1) (drop (at + 1) (pipe_of nodes))) fronts

  size : length (node_of node ∷ take (count - 1) (drop (at + 1) (pipe_of nodes))) ≡ count
  size =
      let left : length (drop at (pipe_of nodes)) ≡ length (pipe_of nodes) - at = length-drop at (pipe_of nodes) in
      let all : length (pipe_of nodes) ≡ length nodes = nodes_length nodes in
      sym (ap length fronts) ∙ length-take-le count (drop at (pipe_of nodes)) (omega (arith, left, all, within))

  behind : drop (at + length (node_of node ∷ take (count - 1) (drop (at + 1) (pipe_of nodes)))) (pipe_of nodes) ≡ drop (at + count) (pipe_of nodes)
  behind = ap (λ (k : ℕ). drop (at + k) (pipe_of nodes)) size

  goes : is_run (at + 1) (node_of node ∷ take (count - 1) (drop (at + 1) (pipe_of nodes))) ≡ true
  goes = sym (ap (is_run (at + 1)) fronts) ∙ run

  whole_part : pipe_of (slice_range nodes at (at + count)) ≡ node_of node ∷ take (count - 1) (drop (at + 1) (pipe_of nodes))
  whole_part = part_is nodes at count ∙ fronts

  firsts_are : first ≡ rows_at w.made node.input
  firsts_are = input ∙ lefts (pipe_of nodes) law at (node_of node) (take (count - 1) (drop (at + 1) (pipe_of nodes))) (drop (at + count) (pipe_of nodes)) cut w.made kept told w.len w.stands

  lists_are : one_by_one evaluate schemas (at + 1) (pipe_of (slice_range nodes at (at + count))) first ≡ one_by_one evaluate schemas (at + 1) (node_of node ∷ take (count - 1) (drop (at + 1) (pipe_of nodes))) (rows_at w.made node.input)
  lists_are =
      ap (λ (ns : List (PipeNode (Function ℕ))). one_by_one evaluate schemas (at + 1) ns first) whole_part
      ∙ ap (one_by_one evaluate schemas (at + 1) (node_of node ∷ take (count - 1) (drop (at + 1) (pipe_of nodes)))) firsts_are

  pub run_step : (taken all : List Stored) (rows : List Row) (further : List Entry) (later : ℕ) → length taken ≡ length kept
      → ((k : ℕ) → (k ≡ node.input → ⊥) → rows_stored_at taken k ≡ rows_stored_at kept k)
      → rows ≡ last_rows first (one_by_one evaluate schemas (at + 1) (pipe_of (slice_range nodes at (at + count))) first)
      → further ≡ told ++ entries_of (one_by_one evaluate schemas (at + 1) (pipe_of (slice_range nodes at (at + count))) first)
      → later ≡ now + evaluations_of (one_by_one evaluate schemas (at + 1) (pipe_of (slice_range nodes at (at + count))) first)
      → all ≡ (taken ++ replicate (count - 1) (stored.Made [])) ++ stored.Made rows ∷ []
      → Worked sources schemas (pipe_of nodes) (at + count) start later all further
  run_step taken all rows further later same others last entries steps e =
      let few : length (take (count - 1) (drop (at + 1) (pipe_of nodes))) ≡ count - 1 = omega (arith, size) in
      let regrouped : all ≡ taken ++ (replicate (length (take (count - 1) (drop (at + 1) (pipe_of nodes)))) (stored.Made []) ++ stored.Made rows ∷ [])
      = e ∙ append_assoc taken (replicate (count - 1) (stored.Made [])) (stored.Made rows ∷ [])
      ∙ ap (λ (k : ℕ). taken ++ (replicate k (stored.Made []) ++ stored.Made rows ∷ [])) (sym few) in
      let lists : rows ≡ last_rows (rows_at w.made node.input) (one_by_one evaluate schemas (at + 1) (node_of node ∷ take (count - 1) (drop (at + 1) (pipe_of nodes))) (rows_at w.made node.input))
      = last ∙ ap (λ (l : List Row). last_rows l (one_by_one evaluate schemas (at + 1) (pipe_of (slice_range nodes at (at + count))) first)) firsts_are
      ∙ ap (last_rows (rows_at w.made node.input)) lists_are in
      let done : Worked sources schemas (pipe_of nodes) (at + length (node_of node ∷ take (count - 1) (drop (at + 1) (pipe_of nodes)))) start later (taken ++ (replicate (length (take (count - 1) (drop (at + 1) (pipe_of nodes)))) (stored.Made []) ++ stored.Made rows ∷ [])) further
      = running sources schemas (pipe_of nodes) law at start now kept told (node_of node) w (take (count - 1) (drop (at + 1) (pipe_of nodes))) (drop (at + count) (pipe_of nodes)) cut behind goes
      taken rows further later same others lists
      (entries ∙ ap (λ (ms : List Made). told ++ entries_of ms) lists_are)
      (steps ∙ ap (λ (ms : List Made). now + evaluations_of ms) lists_are) in
      subst (λ (l : List Stored). Worked sources schemas (pipe_of nodes) (at + count) start later l further) (sym regrouped)
      (subst (λ (k : ℕ). Worked sources schemas (pipe_of nodes) (at + k) start later (taken ++ (replicate (length (take (count - 1) (drop (at + 1) (pipe_of nodes)))) (stored.Made []) ++ stored.Made rows ∷ [])) further) size done)

  pub run_step_most : (later : ℕ) → later ≤ now + evaluations_of (one_by_one evaluate schemas (at + 1) (pipe_of (slice_range nodes at (at + count))) first)
      → later ≤ start + evaluations_of (all_made evaluate sources schemas (pipe_of nodes))
  run_step_most later most =
      running_most sources schemas (pipe_of nodes) law at start now kept told (node_of node) w (take (count - 1) (drop (at + 1) (pipe_of nodes))) (drop (at + count) (pipe_of nodes)) cut behind goes later
      (subst (λ (ms : List Made). later ≤ now + evaluations_of ms) lists_are most)
