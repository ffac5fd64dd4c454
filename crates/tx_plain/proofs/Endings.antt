-- A run of operators whose last one writes.
use Rattle.std.proofs.Common.{◌≡◌, ℕ, ◌+◌, ◌++◌, true, not, List, [], ◌∷◌, length, map, refl, sym, ap, ◌∙◌}
use Rattle.std.specs.Option.{is_some}
use Rattle.std.proofs.lemmas.List.{length-map, map-append}
use Rattle.tx_values.specs.declared.value.Value.{Value}
use Rattle.tx_values.specs.declared.row.Row.{Row}
use Rattle.tx_values.specs.Answer.{Answer}
use Rattle.tx_names.specs.Function.{Function}
use Rattle.tx_pipe.specs.declared.pipe.Node.{Node}
use Rattle.tx_pipe.specs.Pipe.{Handling, Operation, csv, map_to, filter, with_column, map_column, select_columns, rename_column, join, left_join, unique, aggregate, to_csv, PipeNode, handling_of, node_of, output_file, pipe_of}
use Rattle.tx_pipe.specs.Column.{Schema, schema_at}
use Rattle.tx_pipe.specs.Lawful.{ends_once, is_output}
use Rattle.tx_plain.specs.Handlers.{Input}
use Rattle.tx_plain.specs.RowWise.{evaluations_by, evaluations_through, go_on, outcome_by, outcome_on, through, written}
use Rattle.tx_plain.specs.Pipeline.{evaluate}
use Rattle.tx_plain.proofs.RunLemmas.{both}
use Rattle.tx_plain.proofs.Throughs.{evaluations-last, on-out, through-last}

-- ---- the operator that writes

module _ {F : Type 0} (meaning : F → Input → Answer Value) (number : ℕ) (handlers : List (Handling F)) (schema : Schema) where
  writes_by : (op : Operation F ℕ) (row : Row) → is_some (output_file op) ≡ true → outcome_by meaning number handlers schema op row ≡ written number handlers row
  writes_by (csv file names) row h = cc
  writes_by (map_to f results) row h = cc
  writes_by (filter f) row h = cc
  writes_by (with_column name f) row h = cc
  writes_by (map_column name f) row h = cc
  writes_by (select_columns names) row h = cc
  writes_by (rename_column old new) row h = cc
  writes_by (join right l r) row h = cc
  writes_by (left_join right l r) row h = cc
  writes_by unique row h = cc
  writes_by (aggregate f init name) row h = cc
  writes_by (to_csv file) row h = refl

  quiet_by : (op : Operation F ℕ) (row : Row) → is_some (output_file op) ≡ true → evaluations_by meaning handlers schema op row ≡ 0
  quiet_by (csv file names) row h = cc
  quiet_by (map_to f results) row h = cc
  quiet_by (filter f) row h = cc
  quiet_by (with_column name f) row h = cc
  quiet_by (map_column name f) row h = cc
  quiet_by (select_columns names) row h = cc
  quiet_by (rename_column old new) row h = cc
  quiet_by (join right l r) row h = cc
  quiet_by (left_join right l r) row h = cc
  quiet_by unique row h = cc
  quiet_by (aggregate f init name) row h = cc
  quiet_by (to_csv file) row h = refl

ends_last : {F : Type 0} (ns : List (PipeNode F)) (n : PipeNode F) → ends_once (ns ++ n ∷ []) ≡ true → is_output n ≡ true
ends_last [] n h = h
ends_last (m ∷ []) n h = (both (not (is_output m)) (is_output n) h).1
ends_last (m ∷ k ∷ ns) n h = ends_last (k ∷ ns) n (both (not (is_output m)) (ends_once (k ∷ (ns ++ n ∷ []))) h).1

-- ---- on a row

module _ {F : Type 0} (meaning : F → Input → Answer Value) (schemas : List Schema) (number : ℕ) (ns : List (PipeNode F)) (n : PipeNode F) (end : ends_once (ns ++ n ∷ []) ≡ true) where
  pub through-written : (row : Row) → through meaning schemas number (ns ++ n ∷ []) row ≡ go_on (written (number + length ns) n.handlers) (through meaning schemas number ns row)
  through-written row =
      through-last meaning schemas number ns n row
      ∙ on-out (outcome_on meaning schemas (number + length ns) n) (written (number + length ns) n.handlers)
      (λ (r : Row). writes_by meaning (number + length ns) n.handlers (schema_at schemas n.input) n.operation r (ends_last ns n end))
      (through meaning schemas number ns row)

  pub evaluations-written : (row : Row) → evaluations_through meaning schemas number (ns ++ n ∷ []) row ≡ evaluations_through meaning schemas number ns row
  evaluations-written row = evaluations-last meaning schemas number ns n row (λ (r : Row). quiet_by meaning number n.handlers (schema_at schemas n.input) n.operation r (ends_last ns n end))

-- ---- of the code's nodes

pub nodes_last : (nodes before : List Node) (last : Node) → nodes ≡ before ++ last ∷ [] → pipe_of nodes ≡ pipe_of before ++ node_of last ∷ []
nodes_last nodes before last e = ap pipe_of e ∙ map-append node_of before (last ∷ [])

pub nodes_length : (nodes : List Node) → length (pipe_of nodes) ≡ length nodes
nodes_length nodes = length-map nodes node_of

-- the last of some nodes writes what came through the others
pub written_row : (schemas : List Schema) (number at : ℕ) (nodes before : List Node) (last : Node) (row : Row) → nodes ≡ before ++ last ∷ [] → at ≡ number + length before
    → ends_once (pipe_of nodes) ≡ true
    → through evaluate schemas number (pipe_of nodes) row ≡ go_on (written at (map handling_of last.handlers)) (through evaluate schemas number (pipe_of before) row)
written_row schemas number at nodes before last row e place end =
    let same : pipe_of nodes ≡ pipe_of before ++ node_of last ∷ [] = nodes_last nodes before last e in
    ap (λ (p : List (PipeNode (Function ℕ))). through evaluate schemas number p row) same
    ∙ through-written evaluate schemas number (pipe_of before) (node_of last) (sym (ap ends_once same) ∙ end) row
    ∙ ap (λ (k : ℕ). go_on (written (number + k) (map handling_of last.handlers)) (through evaluate schemas number (pipe_of before) row)) (nodes_length before)
    ∙ sym (ap (λ (k : ℕ). go_on (written k (map handling_of last.handlers)) (through evaluate schemas number (pipe_of before) row)) place)

pub written_evaluations : (schemas : List Schema) (number : ℕ) (nodes before : List Node) (last : Node) (row : Row) → nodes ≡ before ++ last ∷ []
    → ends_once (pipe_of nodes) ≡ true
    → evaluations_through evaluate schemas number (pipe_of nodes) row ≡ evaluations_through evaluate schemas number (pipe_of before) row
written_evaluations schemas number nodes before last row e end =
    let same : pipe_of nodes ≡ pipe_of before ++ node_of last ∷ [] = nodes_last nodes before last e in
    ap (λ (p : List (PipeNode (Function ℕ))). evaluations_through evaluate schemas number p row) same
    ∙ evaluations-written evaluate schemas number (pipe_of before) (node_of last) (sym (ap ends_once same) ∙ end) row

pub writing_row : (schemas : List Schema) (number : ℕ) (before : List Node) (last : Node) (row : Row) → ends_once (pipe_of before ++ node_of last ∷ []) ≡ true
    → through evaluate schemas number (pipe_of before ++ node_of last ∷ []) row ≡ go_on (written (number + length before) (map handling_of last.handlers)) (through evaluate schemas number (pipe_of before) row)
writing_row schemas number before last row end =
    through-written evaluate schemas number (pipe_of before) (node_of last) end row
    ∙ ap (λ (k : ℕ). go_on (written (number + k) (map handling_of last.handlers)) (through evaluate schemas number (pipe_of before) row)) (nodes_length before)

pub writing_count : (schemas : List Schema) (number : ℕ) (before : List Node) (last : Node) (row : Row) → ends_once (pipe_of before ++ node_of last ∷ []) ≡ true
    → evaluations_through evaluate schemas number (pipe_of before ++ node_of last ∷ []) row ≡ evaluations_through evaluate schemas number (pipe_of before) row
writing_count schemas number before last row end = evaluations-written evaluate schemas number (pipe_of before) (node_of last) end row

pub ruleset writing = (writing_row, writing_count)
