use Rattle.std.proofs.Common.{◌+◌, ◌-◌, arith}
use Rattle.rand_core.specs.Steps.{stream_of, steps_u32}
use Rattle.rand_pcg.specs.Pcg.{pcg32}
use Rattle.tx_generate.specs.Generated.{rows}
use Rattle.tx_generate.proofs.RowsLeft.{written-more, written-all}
use Rattle.tx_generate.proofs.generated.rows.Goals as goal

pub rows-preserved : goal.rows-preserved
rows-preserved c =
    written-more (rows c.args.seed c.args.count) c.rows.text c.push_row.new.text
    (c.rows.i + 1) (c.args.count - c.rows.i) (c.args.count - (c.rows.i + 1)) c.drawn-row.result
    (stream_of (steps_u32 pcg32) c.rows.rng) (stream_of (steps_u32 pcg32) c.drawn-row.new.rng)
    (omega (arith, c.rows-test.true)) c.drawn-row.ensures c.rows.invariant c.in_ok-push_row.ensures

pub returns : goal.returns
returns c = written-all (rows c.args.seed c.args.count) c.rows.text (c.rows.i + 1) (c.args.count - c.rows.i) (stream_of (steps_u32 pcg32) c.rows.rng)
    (omega (arith, c.rows-test.false)) c.rows.invariant
