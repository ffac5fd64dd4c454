use Rattle.std.proofs.Common.{rules}
use Rattle.std.specs.Str.{chars}
use Rattle.tx_tokens.proofs.Slices.{dropped_more}
use Rattle.tx_tokens.proofs.mark.behind_characters.Goals as goal

pub loop-turn-preserved : goal.loop-turn-preserved
loop-turn-preserved c = (
  search rules,
  dropped_more (chars c.args.text.now) (chars c.loop-turn.rest.now) (chars c.in-Some.more.now) c.in-Some._c c.loop-turn._turn c.in-Some.ensures.value c.loop-turn.invariant.1,
)
