use Rattle.std.proofs.Common.{◌∙◌, rules}
use Rattle.std.specs.Str.{chars}
use Rattle.tx_text.proofs.Pieces.{chars-some}
use Rattle.tx_text.proofs.Builds.{swapped_all, swapped_more}
use Rattle.tx_text.proofs.build.with_replaced.Goals as goal

pub cuts-preserved : goal.cuts-preserved
cuts-preserved c =
    let part = chars-some c.args.part.now c.utf8.part c.requires in (
      search rules,
      swapped_more _ _ _ _ _ _ _ _ _ part c.in-Some.ensures.some c.cuts.invariant.1 c.in_ok-push_str.ensures c.in_ok-push_str-2.ensures,
    )

pub returns : goal.returns
returns c =
    c.done.ensures ∙ swapped_all (chars c.args.part.now) (chars c.args.other.now) (chars c.cuts.rest.now) _ c.cuts.made _ (c.first_split.ensures.none c.in_default.is) c.cuts.invariant.1 c.in_ok-push_str-3.ensures
