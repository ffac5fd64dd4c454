use Rattle.std.proofs.Common.{refl}
use Rattle.std.specs.Fmt.{digits}
use Rattle.rand_core.specs.Stream.{next_u32}
use Rattle.rand_core.specs.Steps.{stream_of, u32_at, word_bytes}
use Rattle.rand_core.specs.Pcg32Seed.{pcg32_seed}
use Rattle.tx_generate.specs.Generated.{rows_from}
use Rattle.tx_generate.proofs.generated.examples_hold.Goals as goal

pub returns : goal.returns
unfolding digits rows_from next_u32 stream_of u32_at word_bytes pcg32_seed
returns c = (refl, refl)
