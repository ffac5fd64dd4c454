use Rattle.std.proofs.Common.{List, [], arith, refl}
use Rattle.tx_values.specs.declared.row.Row.{Row}
use Rattle.tx_records.specs.Records.{rows_of}
use Rattle.tx_plain.proofs.Places.{row_read}
use Rattle.tx_plain.proofs.Walks.{next-part}
use Rattle.tx_plain.proofs.stored.all_rows.Goals as goal

pub loop-place-preserved : goal.loop-place-preserved
loop-place-preserved c =
    next-part (λ (xs : List Row). xs) (λ xs ys. refl) (rows_of c.args.raw.now) c.loop-place.place c.in_ok-row.field-0 c.loop-place.rows c.push.new.self []
    (row_read c.args.raw.now c.loop-place.place c.in_ok-row.field-0 (omega (arith, c.loop-place-test.true, c.len-place-end.ensures)) c.in_ok-row.ensures)
    c.in_ok-push.ensures.ok c.loop-place.invariant
