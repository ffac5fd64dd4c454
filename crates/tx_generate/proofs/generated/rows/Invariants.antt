use Rattle.std.proofs.Common.{◌≡◌, ◌+◌, ◌-◌, ◌++◌}
use Rattle.rand_core.specs.Steps.{stream_of, steps_u32}
use Rattle.rand_pcg.specs.Pcg.{pcg32}
use Rattle.tx_generate.specs.Generated.{rows, rows_from}
use Rattle.tx_generate.proofs.generated.rows.Given as goal

-- the whole is what is written and the rows that are left
abbrev pub invariant-rows : goal.invariant-rows
invariant-rows l = rows l.seed l.count ≡ l.text ++ rows_from (l.i + 1) (l.count - l.i) (stream_of (steps_u32 pcg32) l.rng)
