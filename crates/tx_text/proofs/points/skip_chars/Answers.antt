use Rattle.std.proofs.Common.{rules}
use Rattle.std.specs.Str.{chars}
use Rattle.tx_text.proofs.Parts.{dropped_more}
use Rattle.tx_text.proofs.points.skip_chars.Goals as goal

pub loop-step-preserved : goal.loop-step-preserved
loop-step-preserved c = (
  search rules,
  dropped_more (chars c.args.text.now) (chars c.loop-step.rest.now) (chars c.in-Some.more.now) c.in-Some.field-0-0 c.loop-step._step c.in-Some.ensures.value c.loop-step.invariant.1,
)
