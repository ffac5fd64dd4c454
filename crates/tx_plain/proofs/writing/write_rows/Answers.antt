use Rattle.std.proofs.Common.{◌≡◌, ◌+◌, ◌≤◌, ◌++◌, ℕ, List, [], ◌∷◌, Some, length, slice_get, sum_by, refl, arith}
use Rattle.tx_values.specs.declared.row.Row.{Row}
use Rattle.tx_records.specs.Output.{fields_of, line_of}
use Rattle.tx_pipe.specs.Pipe.{node_of, pipe_of}
use Rattle.tx_plain.specs.declared.outcome.RowOutcome.{RowOutcome}
use Rattle.tx_plain.specs.Operators.{reports, rows_out}
use Rattle.tx_plain.specs.Pipeline.{evaluate, lines_of}
use Rattle.tx_plain.specs.RowWise.{entry_in, evaluations_through, row_in, through}
use Rattle.tx_plain.specs.Calls.Holding.{rows_stored}
use Rattle.tx_plain.proofs.Counting.{tracks_on}
use Rattle.tx_plain.proofs.Walks.{last-length, last-part, last-sum, lines_parts, maps_parts, most-sum, next-length, next-part, next-sum, one_at_most, there}
use Rattle.tx_plain.proofs.writing.write_rows.Goals as goal

pub loop-place-preserved : goal.loop-place-preserved
loop-place-preserved g c =
    let all : List Row = rows_stored c.args.stored.now in
    let on : Row → RowOutcome = through evaluate c.args.s.now c.args.number (pipe_of c.args.before.now ++ node_of c.args.last.now ∷ []) in
    let count : Row → ℕ = evaluations_through evaluate c.args.s.now c.args.number (pipe_of c.args.before.now ++ node_of c.args.last.now ∷ []) in
    let place : ℕ = c.loop-place.place in
    let row : (r : Row) × (slice_get all place ≡ Some r) = there all place (omega (arith, c.loop-place-test.true, c.len-place-end.ensures)) in
    let one : length (rows_out on (row.0 ∷ [])) ≤ 1 = one_at_most (row_in (on row.0)) in (
      next-part (λ (rows : List Row). lines_of (rows_out on rows)) (lines_parts (λ (r : Row). row_in (on r)) (λ (r : Row). line_of (fields_of r.cells))) all place row.0 c.loop-place.writing.output c.write_row.new.writing.output c.args.writing.now.output row.1 (c.in_ok-write_row.ensures.lines row.0 row.1) c.loop-place.invariant.0,
      next-length (rows_out on) (maps_parts (λ (r : Row). row_in (on r))) all place row.0 c.loop-place.writing.rows c.write_row.new.writing.rows (length (rows_out on all)) row.1 (c.in_ok-write_row.ensures.rows row.0 row.1) c.loop-place.invariant.1,
      omega (arith, one, c.in_ok-write_row.ensures.rows row.0 row.1, c.loop-place.invariant.2),
      next-part (reports on) (maps_parts (λ (r : Row). entry_in r.origin (on r))) all place row.0 c.loop-place.entries c.write_row.new.entries c.args.entries.now row.1 (c.in_ok-write_row.ensures.entries row.0 row.1) c.loop-place.invariant.3,
      next-sum count all place row.0 c.loop-place.steps c.write_row.new.steps c.args.steps.now row.1 (c.in_ok-write_row.ensures.steps row.0 row.1) c.loop-place.invariant.4,
      tracks_on c.args.steps.now c.loop-place.steps c.write_row.new.steps c.args.meter.now c.loop-place.meter c.write_row.new.meter c.loop-place.invariant.5 c.write_row.ensures.counts,
    )

pub returns-in_err-write_row-clause-most : goal.returns-in_err-write_row-clause-most
returns-in_err-write_row-clause-most g c =
    let all : List Row = rows_stored c.args.stored.now in
    let count : Row → ℕ = evaluations_through evaluate c.args.s.now c.args.number (pipe_of c.args.before.now ++ node_of c.args.last.now ∷ []) in
    let row : (r : Row) × (slice_get all c.loop-place.place ≡ Some r) = there all c.loop-place.place (omega (arith, c.loop-place-test.true, c.len-place-end.ensures)) in
    most-sum count all c.loop-place.place row.0 c.loop-place.steps c.write_row.new.steps c.args.steps.now row.1 (c.write_row.ensures.most row.0 row.1) c.loop-place.invariant.4

pub returns-in_err-write_row-clause-counts : goal.returns-in_err-write_row-clause-counts
returns-in_err-write_row-clause-counts g c =
    tracks_on c.args.steps.now c.loop-place.steps c.write_row.new.steps c.args.meter.now c.loop-place.meter c.write_row.new.meter c.loop-place.invariant.5 c.write_row.ensures.counts

pub returns : goal.returns
returns g c =
    let all : List Row = rows_stored c.args.stored.now in
    let on : Row → RowOutcome = through evaluate c.args.s.now c.args.number (pipe_of c.args.before.now ++ node_of c.args.last.now ∷ []) in
    let count : Row → ℕ = evaluations_through evaluate c.args.s.now c.args.number (pipe_of c.args.before.now ++ node_of c.args.last.now ∷ []) in
    let past : length all ≤ c.loop-place.place = omega (arith, c.loop-place-test.false, c.len-place-end.ensures) in
    let sum : c.loop-place.steps ≡ c.args.steps.now + sum_by count all = last-sum count all c.loop-place.place c.loop-place.steps c.args.steps.now past c.loop-place.invariant.4 in
    record {
      lines = last-part (λ (rows : List Row). lines_of (rows_out on rows)) (lines_parts (λ (r : Row). row_in (on r)) (λ (r : Row). line_of (fields_of r.cells))) all refl c.loop-place.place c.loop-place.writing.output (c.args.writing.now.output ++ lines_of (rows_out on all)) past c.loop-place.invariant.0;
      rows = last-length (rows_out on) (maps_parts (λ (r : Row). row_in (on r))) all refl c.loop-place.place c.loop-place.writing.rows (length (rows_out on all)) past c.loop-place.invariant.1;
      entries = last-part (reports on) (maps_parts (λ (r : Row). entry_in r.origin (on r))) all refl c.loop-place.place c.loop-place.entries (c.args.entries.now ++ reports on all) past c.loop-place.invariant.3;
      steps = sum;
      most = omega (arith, sum);
      counts = c.loop-place.invariant.5;
    }
