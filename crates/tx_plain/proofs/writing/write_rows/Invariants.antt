use Rattle.std.proofs.Common.{◌≡◌, ◌+◌, ◌≤◌, ◌++◌, ◌∷◌, [], drop, length}
use Rattle.std.specs.List.{sum_by}
use Rattle.tx_pipe.specs.Pipe.{node_of, pipe_of}
use Rattle.tx_plain.specs.Operators.{reports, rows_out}
use Rattle.tx_plain.specs.Pipeline.{evaluate, lines_of}
use Rattle.tx_plain.specs.RowWise.{evaluations_through, through}
use Rattle.tx_plain.specs.Calls.Holding.{rows_stored}
use Rattle.tx_plain.specs.Calls.Tracking.{Tracks}
use Rattle.tx_plain.proofs.writing.write_rows.Given as goal

abbrev pub invariant-loop-place : goal.invariant-loop-place
invariant-loop-place g l =
    let on = through evaluate l.s l.number (pipe_of l.before ++ node_of l.last ∷ []) in
    let all = rows_stored l.stored in
    (l.writing.output ++ lines_of (rows_out on (drop l.place all)) ≡ l.initial.writing.output ++ lines_of (rows_out on all))
    × (l.writing.rows + length (rows_out on (drop l.place all)) ≡ length (rows_out on all))
    × (l.writing.rows ≤ l.place)
    × (l.entries ++ reports on (drop l.place all) ≡ l.initial.entries ++ reports on all)
    × (l.steps + sum_by (evaluations_through evaluate l.s l.number (pipe_of l.before ++ node_of l.last ∷ [])) (drop l.place all) ≡ l.initial.steps + sum_by (evaluations_through evaluate l.s l.number (pipe_of l.before ++ node_of l.last ∷ [])) all)
    × Tracks l.initial.steps l.steps l.initial.meter l.meter
