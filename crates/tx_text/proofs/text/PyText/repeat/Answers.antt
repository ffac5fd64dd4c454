use Rattle.std.proofs.Common.{◌≡◌, ◌∙◌, ◌+◌, ◌*◌, ap, length}
use Rattle.tx_text.specs.Text.{repeated}
use Rattle.tx_text.proofs.Builds.{length-repeated, not_long, too_long}
use Rattle.tx_text.proofs.text.PyText.repeat.Goals as goal

pub returns-then-not-is_within : goal.returns-then-not-is_within
returns-then-not-is_within c =
    let len : c.args.times * c.len.result + 0 ≡ length (repeated c.args.times c.args.self.now) =
    rw c.len.ensures (length-repeated c.args.times c.args.self.now) in
    too_long c.is_within.ensures c.if-not-is_within.true len

pub returns : goal.returns
returns c =
    let len : c.args.times * c.len.result + 0 ≡ length (repeated c.args.times c.args.self.now) =
    rw c.len.ensures (length-repeated c.args.times c.args.self.now) in
    (c.in_ok-copies_of.ensures ∙ ap (repeated c.args.times) c.as_str.ensures.chars, not_long c.is_within.ensures c.if-not-is_within.false len)
