-- A run of operators, whose last one stands apart.
use Rattle.std.proofs.Common.{◌≡◌, ℕ, ◌++◌, List, [], ◌∷◌, length, sum_by, sym, ap, ◌∙◌}
use Rattle.tx_values.specs.declared.row.Row.{Row}
use Rattle.tx_names.specs.Function.{Function}
use Rattle.tx_pipe.specs.declared.pipe.Node.{Node}
use Rattle.tx_pipe.specs.Pipe.{PipeNode, node_of, pipe_of}
use Rattle.tx_pipe.specs.Column.{Schema}
use Rattle.tx_plain.specs.RowWise.{evaluations_through, through}
use Rattle.tx_plain.specs.Operators.{reports, rows_out}
use Rattle.tx_plain.specs.Pipeline.{entries_of, evaluate, evaluations_of}
use Rattle.tx_plain.specs.Laws.{by_operator, last_rows, one_by_one, RowByRow}
use Rattle.tx_plain.proofs.Endings.{nodes_last, nodes_length}

module _ (schemas : List Schema) (number : ℕ) (nodes before : List Node) (last : Node) (all : List Row) (law : RowByRow schemas number (pipe_of nodes) all) (e : nodes ≡ before ++ last ∷ []) where
  pub out_rows : rows_out (through evaluate schemas number (pipe_of before ++ node_of last ∷ [])) all ≡ last_rows all (one_by_one evaluate schemas number (pipe_of nodes) all)
  out_rows = sym (ap (λ (p : List (PipeNode (Function ℕ))). rows_out (through evaluate schemas number p) all) (nodes_last nodes before last e)) ∙ law.rows

  pub out_entries : by_operator number (length nodes) (reports (through evaluate schemas number (pipe_of before ++ node_of last ∷ [])) all) ≡ entries_of (one_by_one evaluate schemas number (pipe_of nodes) all)
  out_entries =
      sym (ap (λ (p : List (PipeNode (Function ℕ))). by_operator number (length nodes) (reports (through evaluate schemas number p) all)) (nodes_last nodes before last e))
      ∙ sym (ap (λ (k : ℕ). by_operator number k (reports (through evaluate schemas number (pipe_of nodes)) all)) (nodes_length nodes))
      ∙ law.entries

  pub out_evaluations : sum_by (evaluations_through evaluate schemas number (pipe_of before ++ node_of last ∷ [])) all ≡ evaluations_of (one_by_one evaluate schemas number (pipe_of nodes) all)
  out_evaluations = sym (ap (λ (p : List (PipeNode (Function ℕ))). sum_by (evaluations_through evaluate schemas number p) all) (nodes_last nodes before last e)) ∙ law.evaluations
