use Rattle.std.proofs.Common.{◌≡◌, ◌+◌, ◌≤◌, ◌++◌, ℕ, List, Some, length, slice_get, sum_by, refl, arith}
use Rattle.tx_values.specs.declared.row.Row.{Row}
use Rattle.tx_pipe.specs.Pipe.{pipe_of}
use Rattle.tx_plain.specs.declared.outcome.RowOutcome.{RowOutcome}
use Rattle.tx_plain.specs.Operators.{reports, rows_out}
use Rattle.tx_plain.specs.Pipeline.{evaluate}
use Rattle.tx_plain.specs.RowWise.{entry_in, evaluations_through, row_in, through}
use Rattle.tx_plain.specs.Calls.Holding.{rows_stored}
use Rattle.tx_plain.proofs.Counting.{tracks_on}
use Rattle.tx_plain.proofs.Walks.{last-part, last-sum, maps_parts, most-sum, next-part, next-sum, there}
use Rattle.tx_plain.proofs.runs.walk.Goals as goal

pub loop-place-preserved : goal.loop-place-preserved
loop-place-preserved g c =
    let all : List Row = rows_stored c.args.stored.now in
    let on : Row → RowOutcome = through evaluate c.args.s.now c.args.number (pipe_of c.args.nodes.now) in
    let count : Row → ℕ = evaluations_through evaluate c.args.s.now c.args.number (pipe_of c.args.nodes.now) in
    let place : ℕ = c.loop-place.place in
    let row : (r : Row) × (slice_get all place ≡ Some r) = there all place (omega (arith, c.loop-place-test.true, c.len-place-end.ensures)) in (
      next-part (rows_out on) (maps_parts (λ (r : Row). row_in (on r))) all place row.0 c.loop-place.rows c.walk_row.new.rows c.args.rows.now row.1 (c.in_ok-walk_row.ensures.rows row.0 row.1) c.loop-place.invariant.0,
      next-part (reports on) (maps_parts (λ (r : Row). entry_in r.origin (on r))) all place row.0 c.loop-place.entries c.walk_row.new.entries c.args.entries.now row.1 (c.in_ok-walk_row.ensures.entries row.0 row.1) c.loop-place.invariant.1,
      next-sum count all place row.0 c.loop-place.steps c.walk_row.new.steps c.args.steps.now row.1 (c.in_ok-walk_row.ensures.steps row.0 row.1) c.loop-place.invariant.2,
      tracks_on c.args.steps.now c.loop-place.steps c.walk_row.new.steps c.args.meter.now c.loop-place.meter c.walk_row.new.meter c.loop-place.invariant.3 c.walk_row.ensures.counts,
    )

pub returns-in_err-walk_row-clause-most : goal.returns-in_err-walk_row-clause-most
returns-in_err-walk_row-clause-most g c =
    let all : List Row = rows_stored c.args.stored.now in
    let count : Row → ℕ = evaluations_through evaluate c.args.s.now c.args.number (pipe_of c.args.nodes.now) in
    let row : (r : Row) × (slice_get all c.loop-place.place ≡ Some r) = there all c.loop-place.place (omega (arith, c.loop-place-test.true, c.len-place-end.ensures)) in
    most-sum count all c.loop-place.place row.0 c.loop-place.steps c.walk_row.new.steps c.args.steps.now row.1 (c.walk_row.ensures.most row.0 row.1) c.loop-place.invariant.2

pub returns-in_err-walk_row-clause-counts : goal.returns-in_err-walk_row-clause-counts
returns-in_err-walk_row-clause-counts g c =
    tracks_on c.args.steps.now c.loop-place.steps c.walk_row.new.steps c.args.meter.now c.loop-place.meter c.walk_row.new.meter c.loop-place.invariant.3 c.walk_row.ensures.counts

pub returns : goal.returns
returns g c =
    let all : List Row = rows_stored c.args.stored.now in
    let on : Row → RowOutcome = through evaluate c.args.s.now c.args.number (pipe_of c.args.nodes.now) in
    let count : Row → ℕ = evaluations_through evaluate c.args.s.now c.args.number (pipe_of c.args.nodes.now) in
    let past : length all ≤ c.loop-place.place = omega (arith, c.loop-place-test.false, c.len-place-end.ensures) in
    let sum : c.loop-place.steps ≡ c.args.steps.now + sum_by count all = last-sum count all c.loop-place.place c.loop-place.steps c.args.steps.now past c.loop-place.invariant.2 in
    record {
      rows = last-part (rows_out on) (maps_parts (λ (r : Row). row_in (on r))) all refl c.loop-place.place c.loop-place.rows (c.args.rows.now ++ rows_out on all) past c.loop-place.invariant.0;
      entries = last-part (reports on) (maps_parts (λ (r : Row). entry_in r.origin (on r))) all refl c.loop-place.place c.loop-place.entries (c.args.entries.now ++ reports on all) past c.loop-place.invariant.1;
      steps = sum;
      most = omega (arith, sum);
      counts = c.loop-place.invariant.3;
    }
