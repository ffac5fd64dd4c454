-- The last run of a pipe gives the answer.
use Rattle.std.proofs.Common.{◌≡◌, ℕ, suc, ◌+◌, ◌-◌, ◌<◌, ◌++◌, true, List, [], ◌∷◌, Option, drop, get_or, length, map, option_map, slice_get, take, refl, sym, ap, ◌∙◌, arith, append-nil}
use Rattle.std.specs.Option.{unwrap_or}
use Rattle.std.proofs.lemmas.List.{length-drop, take_all}
use Rattle.tx_values.specs.declared.row.Row.{Row}
use Rattle.tx_names.specs.Function.{Function}
use Rattle.tx_records.specs.declared.csv_source.CsvSource.{CsvSource}
use Rattle.tx_report.specs.declared.report.Entry.{Entry}
use Rattle.tx_report.specs.Report.{report_text}
use Rattle.std.specs.List.{drop-map}
use Rattle.tx_pipe.specs.declared.pipe.Node.{Node}
use Rattle.tx_pipe.specs.Lawful.{Lawful}
use Rattle.tx_pipe.specs.Pipe.{PipeNode, node_of, pipe_of}
use Rattle.tx_pipe.specs.Column.{Schema, schema_at}
use Rattle.tx_plain.specs.declared.plain.Answer.{Answer}
use Rattle.tx_plain.specs.declared.stored.Stored.{Stored}
use Rattle.tx_plain.specs.Operators.{Made, made_behind, row_wise, rows_at}
use Rattle.tx_plain.specs.Pipeline.{all_made, answer_of, answered, entries_of, evaluate, evaluations_of, kinds_of, output_text}
use Rattle.tx_plain.specs.Laws.{is_run, last_rows, one_by_one}
use Rattle.tx_plain.specs.Calls.Standing.{Worked}
use Rattle.tx_plain.proofs.Advancing.{entries-append, evaluations-append, get_behind, last-is, run-length}
use Rattle.tx_plain.specs.Calls.Holding.{rows_stored_at}
use Rattle.tx_plain.proofs.Cuts.{cut_at}
use Rattle.tx_plain.proofs.Endings.{nodes_length}
use Rattle.tx_plain.proofs.Stepping.{lefts}
use Rattle.tx_plain.proofs.RunLemmas.{runs}

-- what is written of these rows and entries
abbrev made_of : List (PipeNode (Function ℕ)) → List Schema → List Row → List Entry → Answer
made_of p schemas rows entries = record {
  output = output_text (schema_at schemas (length p)) rows;
  report = report_text (kinds_of p) entries;
  rows = length rows;
  reported = length entries;
}

-- an answer of its parts
abbrev pub answer_by : List ℕ → List ℕ → ℕ → ℕ → Answer
answer_by output report rows reported = record { output = output; report = report; rows = rows; reported = reported }

module _ (sources : List (Option CsvSource)) (schemas : List Schema) (p : List (PipeNode (Function ℕ))) (at start now : ℕ) (kept : List Stored) (told : List Entry)
    (n : PipeNode (Function ℕ)) (ns : List (PipeNode (Function ℕ))) (w : Worked sources schemas p at start now kept told)
    (cut : drop at p ≡ n ∷ ns) (run : is_run (at + 1) (n ∷ ns) ≡ true) where
  all_is : all_made evaluate sources schemas p ≡ w.made ++ one_by_one evaluate schemas (at + 1) (n ∷ ns) (rows_at w.made n.input)
  all_is =
      sym w.all
      ∙ ap (made_behind evaluate sources schemas w.made) (cut ∙ sym (append-nil (n ∷ ns)))
      ∙ runs sources schemas w.made n ns [] (ap (λ (k : ℕ). is_run (k + 1) (n ∷ ns)) w.len ∙ run)
      ∙ ap (λ (k : ℕ). w.made ++ one_by_one evaluate schemas (k + 1) (n ∷ ns) (rows_at w.made n.input)) w.len

  whole : length p ≡ suc (length w.made + length ns)
  whole =
      let parts : length (drop at p) ≡ length p - at = length-drop at p in
      let here : length (drop at p) ≡ length (n ∷ ns) = ap length cut in
      let many : length (n ∷ ns) ≡ suc (length ns) = refl in
      omega (arith, parts, here, many, w.len)

  rows_last : rows_at (w.made ++ one_by_one evaluate schemas (at + 1) (n ∷ ns) (rows_at w.made n.input)) (length p)
      ≡ last_rows (rows_at w.made n.input) (one_by_one evaluate schemas (at + 1) (n ∷ ns) (rows_at w.made n.input))
  rows_last =
      ap (rows_at (w.made ++ one_by_one evaluate schemas (at + 1) (n ∷ ns) (rows_at w.made n.input))) whole
      ∙ ap (λ (o : Option Made). unwrap_or (option_map (λ (m : Made). m.rows) o) []) (get_behind w.made (one_by_one evaluate schemas (at + 1) (n ∷ ns) (rows_at w.made n.input)) (length ns))
      ∙ ap (λ (k : ℕ). unwrap_or (option_map (λ (m : Made). m.rows) (slice_get (one_by_one evaluate schemas (at + 1) (n ∷ ns) (rows_at w.made n.input)) k)) [])
      (sym (run-length schemas (at + 1 + 1) ns (row_wise evaluate schemas (at + 1) n (rows_at w.made n.input)).rows))
      ∙ sym (last-is (rows_at w.made n.input) (row_wise evaluate schemas (at + 1) n (rows_at w.made n.input))
      (one_by_one evaluate schemas (at + 1 + 1) ns (row_wise evaluate schemas (at + 1) n (rows_at w.made n.input)).rows))

  entries_last : entries_of (w.made ++ one_by_one evaluate schemas (at + 1) (n ∷ ns) (rows_at w.made n.input))
      ≡ told ++ entries_of (one_by_one evaluate schemas (at + 1) (n ∷ ns) (rows_at w.made n.input))
  entries_last =
      entries-append w.made (one_by_one evaluate schemas (at + 1) (n ∷ ns) (rows_at w.made n.input))
      ∙ ap (λ (l : List Entry). l ++ entries_of (one_by_one evaluate schemas (at + 1) (n ∷ ns) (rows_at w.made n.input))) (sym w.stands.entries)

  pub finished : (rows : List Row) (entries : List Entry)
      → rows ≡ last_rows (rows_at w.made n.input) (one_by_one evaluate schemas (at + 1) (n ∷ ns) (rows_at w.made n.input))
      → entries ≡ told ++ entries_of (one_by_one evaluate schemas (at + 1) (n ∷ ns) (rows_at w.made n.input))
      → made_of p schemas rows entries ≡ answered evaluate sources schemas p
  finished rows entries e f =
      ap (λ (l : List Row). made_of p schemas l entries) (e ∙ sym rows_last)
      ∙ ap (made_of p schemas (rows_at (w.made ++ one_by_one evaluate schemas (at + 1) (n ∷ ns) (rows_at w.made n.input)) (length p))) (f ∙ sym entries_last)
      ∙ sym (ap (answer_of p schemas) all_is)

  pub finished_evaluations : now + evaluations_of (one_by_one evaluate schemas (at + 1) (n ∷ ns) (rows_at w.made n.input)) ≡ start + evaluations_of (all_made evaluate sources schemas p)
  finished_evaluations =
      let whole_of : evaluations_of (all_made evaluate sources schemas p) ≡ evaluations_of w.made + evaluations_of (one_by_one evaluate schemas (at + 1) (n ∷ ns) (rows_at w.made n.input))
      = ap evaluations_of all_is ∙ evaluations-append w.made (one_by_one evaluate schemas (at + 1) (n ∷ ns) (rows_at w.made n.input)) in
      omega (arith, whole_of, w.steps)

-- ---- of the code's nodes

pub end_part : (nodes : List Node) (at : ℕ) → pipe_of (take (length nodes - at) (drop at nodes)) ≡ drop at (pipe_of nodes)
end_part nodes at =
    let size : length (drop at nodes) ≡ length nodes - at = length-drop at nodes in
    ap (map node_of) (take_all (length nodes - at) (drop at nodes) (omega (arith, size))) ∙ sym (drop-map node_of at nodes)

module _ (sources : List (Option CsvSource)) (schemas : List Schema) (nodes : List Node) (law : Lawful (pipe_of nodes)) (at start now : ℕ) (kept : List Stored) (told : List Entry)
    (node : Node) (within : at < length nodes) (is : node ≡ get_or nodes at node) (run : is_run (at + 1) (drop at (pipe_of nodes)) ≡ true)
    (w : Worked sources schemas (pipe_of nodes) at start now kept told) (first : List Row) (input : first ≡ rows_stored_at kept node.input) where
  cuts : drop at (pipe_of nodes) ≡ node_of node ∷ drop (at + 1) (pipe_of nodes)
  cuts = cut_at nodes at node within is

  goes : is_run (at + 1) (node_of node ∷ drop (at + 1) (pipe_of nodes)) ≡ true
  goes = sym (ap (is_run (at + 1)) cuts) ∙ run

  firsts_are : first ≡ rows_at w.made node.input
  firsts_are =
      input
      ∙ lefts (pipe_of nodes) law at (node_of node) (drop (at + 1) (pipe_of nodes)) [] (cuts ∙ sym (append-nil (node_of node ∷ drop (at + 1) (pipe_of nodes)))) w.made kept told w.len w.stands

  lists_are : one_by_one evaluate schemas (at + 1) (pipe_of (take (length nodes - at) (drop at nodes))) first ≡ one_by_one evaluate schemas (at + 1) (node_of node ∷ drop (at + 1) (pipe_of nodes)) (rows_at w.made node.input)
  lists_are =
      ap (λ (ns : List (PipeNode (Function ℕ))). one_by_one evaluate schemas (at + 1) ns first) (end_part nodes at ∙ cuts)
      ∙ ap (one_by_one evaluate schemas (at + 1) (node_of node ∷ drop (at + 1) (pipe_of nodes))) firsts_are

  pub last_answer : (header : Schema) (bytes : List ℕ) (count : ℕ) (entries : List Entry) → header ≡ schema_at schemas (length nodes)
      → bytes ≡ output_text header (last_rows first (one_by_one evaluate schemas (at + 1) (pipe_of (take (length nodes - at) (drop at nodes))) first))
      → count ≡ length (last_rows first (one_by_one evaluate schemas (at + 1) (pipe_of (take (length nodes - at) (drop at nodes))) first))
      → entries ≡ told ++ entries_of (one_by_one evaluate schemas (at + 1) (pipe_of (take (length nodes - at) (drop at nodes))) first)
      → answer_by bytes (report_text (kinds_of (pipe_of nodes)) entries) count (length entries) ≡ answered evaluate sources schemas (pipe_of nodes)
  last_answer header bytes count entries head text number told_too =
      let rows : List Row = last_rows first (one_by_one evaluate schemas (at + 1) (pipe_of (take (length nodes - at) (drop at nodes))) first) in
      let rows_are : rows ≡ last_rows (rows_at w.made node.input) (one_by_one evaluate schemas (at + 1) (node_of node ∷ drop (at + 1) (pipe_of nodes)) (rows_at w.made node.input))
      = ap (λ (l : List Row). last_rows l (one_by_one evaluate schemas (at + 1) (pipe_of (take (length nodes - at) (drop at nodes))) first)) firsts_are
      ∙ ap (last_rows (rows_at w.made node.input)) lists_are in
      let headed : bytes ≡ output_text (schema_at schemas (length (pipe_of nodes))) rows
      = text ∙ ap (λ (h : Schema). output_text h rows) (head ∙ ap (schema_at schemas) (sym (nodes_length nodes))) in
      ap (λ (b : List ℕ). answer_by b (report_text (kinds_of (pipe_of nodes)) entries) count (length entries)) headed
      ∙ ap (λ (k : ℕ). answer_by (output_text (schema_at schemas (length (pipe_of nodes))) rows) (report_text (kinds_of (pipe_of nodes)) entries) k (length entries)) number
      ∙ finished sources schemas (pipe_of nodes) at start now kept told (node_of node) (drop (at + 1) (pipe_of nodes)) w cuts goes rows entries rows_are
      (told_too ∙ ap (λ (ms : List Made). told ++ entries_of ms) lists_are)

  pub last_steps : now + evaluations_of (one_by_one evaluate schemas (at + 1) (pipe_of (take (length nodes - at) (drop at nodes))) first) ≡ start + evaluations_of (all_made evaluate sources schemas (pipe_of nodes))
  last_steps =
      ap (λ (ms : List Made). now + evaluations_of ms) lists_are
      ∙ finished_evaluations sources schemas (pipe_of nodes) at start now kept told (node_of node) (drop (at + 1) (pipe_of nodes)) w cuts goes
