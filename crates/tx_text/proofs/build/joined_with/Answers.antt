use Rattle.std.proofs.Common.{◌++◌, ◌∙◌, ap}
use Rattle.std.specs.Str.{chars}
use Rattle.tx_text.proofs.Builds.{joined_first}
use Rattle.tx_text.proofs.build.joined_with.Goals as goal

pub parts-init : goal.parts-init
parts-init c =
    joined_first (chars c.args.sep.now) _ c.first-item.result c.args.parts.now c.in-len1-up.len_at_least c.first-item.is
    (c.in_ok-push_str.ensures ∙ (ap (λ t. t ++ chars c.as_str.result.now) c.in_ok-made.ensures ∙ c.as_str.ensures.chars))
