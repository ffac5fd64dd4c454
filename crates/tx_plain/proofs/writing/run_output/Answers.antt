use Rattle.std.proofs.Common.{◌+◌, ◌++◌, ℕ, List, [], ◌∷◌, ap, length, ◌∙◌, arith}
use Rattle.tx_values.specs.declared.row.Row.{Row}
use Rattle.tx_records.specs.Output.{line_of}
use Rattle.tx_report.specs.declared.report.Entry.{Entry}
use Rattle.tx_pipe.specs.Pipe.{node_of, pipe_of}
use Rattle.tx_plain.specs.RowWise.{through}
use Rattle.tx_plain.specs.Operators.{reports, rows_out}
use Rattle.tx_plain.specs.Pipeline.{evaluate, lines_of}
use Rattle.tx_plain.specs.Laws.{by_operator}
use Rattle.tx_plain.specs.Calls.Holding.{rows_stored}
use Rattle.tx_plain.proofs.Endings.{nodes_length}
use Rattle.tx_plain.proofs.Parts.{out_entries, out_evaluations, out_rows}
use Rattle.tx_plain.proofs.Uses.{ends_some}
use Rattle.tx_plain.proofs.writing.run_output.Goals as goal

pub split_last-requires : goal.split_last-requires
split_last-requires g c = omega (arith, ends_some (pipe_of c.args.nodes.now) c.requires.end, nodes_length c.args.nodes.now)

pub returns-in_err-write_rows-clause-most : goal.returns-in_err-write_rows-clause-most
returns-in_err-write_rows-clause-most g c = let same = out_evaluations c.args.s.now c.args.number c.args.nodes.now c.split_last.result.0.now c.split_last.result.1.now (rows_stored c.args.stored.now) (c.rows_go_one_by_one.ensures c.args.s.now c.args.number (pipe_of c.args.nodes.now) (rows_stored c.args.stored.now)) c.split_last.ensures in omega (arith, same, c.write_rows.ensures.most)

pub returns-in_err-add_by_operator-clause-most : goal.returns-in_err-add_by_operator-clause-most
returns-in_err-add_by_operator-clause-most g c = let same = out_evaluations c.args.s.now c.args.number c.args.nodes.now c.split_last.result.0.now c.split_last.result.1.now (rows_stored c.args.stored.now) (c.rows_go_one_by_one.ensures c.args.s.now c.args.number (pipe_of c.args.nodes.now) (rows_stored c.args.stored.now)) c.split_last.ensures in omega (arith, same, c.write_rows.ensures.most)

pub returns-in_err-into_bytes-clause-most : goal.returns-in_err-into_bytes-clause-most
returns-in_err-into_bytes-clause-most g c = let same = out_evaluations c.args.s.now c.args.number c.args.nodes.now c.split_last.result.0.now c.split_last.result.1.now (rows_stored c.args.stored.now) (c.rows_go_one_by_one.ensures c.args.s.now c.args.number (pipe_of c.args.nodes.now) (rows_stored c.args.stored.now)) c.split_last.ensures in omega (arith, same, c.write_rows.ensures.most)

pub returns-clause-most : goal.returns-clause-most
returns-clause-most g c = let same = out_evaluations c.args.s.now c.args.number c.args.nodes.now c.split_last.result.0.now c.split_last.result.1.now (rows_stored c.args.stored.now) (c.rows_go_one_by_one.ensures c.args.s.now c.args.number (pipe_of c.args.nodes.now) (rows_stored c.args.stored.now)) c.split_last.ensures in omega (arith, same, c.write_rows.ensures.most)

pub returns-clause-bytes : goal.returns-clause-bytes
returns-clause-bytes g c =
    c.in_ok-into_bytes.ensures ∙ c.in_ok-write_rows.ensures.lines
    ∙ ap (λ (l : List ℕ). l ++ lines_of (rows_out (through evaluate c.args.s.now c.args.number (pipe_of c.split_last.result.0.now ++ node_of c.split_last.result.1.now ∷ [])) (rows_stored c.args.stored.now))) c.in_ok-writing.ensures.output
    ∙ ap (λ (rows : List Row). line_of c.args.header.now ++ lines_of rows) (out_rows c.args.s.now c.args.number c.args.nodes.now c.split_last.result.0.now c.split_last.result.1.now (rows_stored c.args.stored.now) (c.rows_go_one_by_one.ensures c.args.s.now c.args.number (pipe_of c.args.nodes.now) (rows_stored c.args.stored.now)) c.split_last.ensures)

pub returns-clause-rows : goal.returns-clause-rows
returns-clause-rows g c = c.in_ok-write_rows.ensures.rows ∙ ap (λ (rows : List Row). length rows) (out_rows c.args.s.now c.args.number c.args.nodes.now c.split_last.result.0.now c.split_last.result.1.now (rows_stored c.args.stored.now) (c.rows_go_one_by_one.ensures c.args.s.now c.args.number (pipe_of c.args.nodes.now) (rows_stored c.args.stored.now)) c.split_last.ensures)

pub returns-clause-entries : goal.returns-clause-entries
returns-clause-entries g c =
    c.in_ok-add_by_operator.ensures
    ∙ ap (λ (l : List Entry). c.args.entries.now ++ by_operator c.args.number (length c.args.nodes.now) l)
    (c.as_slice.ensures ∙ c.in_ok-write_rows.ensures.entries ∙ ap (λ (l : List Entry). l ++ reports (through evaluate c.args.s.now c.args.number (pipe_of c.split_last.result.0.now ++ node_of c.split_last.result.1.now ∷ [])) (rows_stored c.args.stored.now)) c.new-walked.ensures)
    ∙ ap (λ (l : List Entry). c.args.entries.now ++ l) (out_entries c.args.s.now c.args.number c.args.nodes.now c.split_last.result.0.now c.split_last.result.1.now (rows_stored c.args.stored.now) (c.rows_go_one_by_one.ensures c.args.s.now c.args.number (pipe_of c.args.nodes.now) (rows_stored c.args.stored.now)) c.split_last.ensures)

pub returns-clause-steps : goal.returns-clause-steps
returns-clause-steps g c = c.in_ok-write_rows.ensures.steps ∙ ap (λ (k : ℕ). c.args.steps.now + k) (out_evaluations c.args.s.now c.args.number c.args.nodes.now c.split_last.result.0.now c.split_last.result.1.now (rows_stored c.args.stored.now) (c.rows_go_one_by_one.ensures c.args.s.now c.args.number (pipe_of c.args.nodes.now) (rows_stored c.args.stored.now)) c.split_last.ensures)
