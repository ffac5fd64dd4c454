use Rattle.std.proofs.Common.{◌∙◌, ap₂, arith}
use Rattle.tx_text.specs.Text.{between}
use Rattle.tx_text.proofs.Builds.{length-between, spread_fits, spread_long}
use Rattle.tx_text.proofs.text.PyText.replace_empty.Goals.{then-step-most-via-then-step-most, then-step-most-via-else-step-most+then-not-is_within}
use Rattle.tx_text.proofs.text.PyText.replace_empty.Goals as goal

pub returns-then-step-most : goal.returns-then-step-most
returns-then-step-most c =
    elim c.then-step-most.branch [
      | then-step-most-via-then-step-most w ↦
          omega (arith, length-between c.args.new.now c.args.self.now, w.if-step-most.true, c.len-step.ensures)
      | then-step-most-via-else-step-most+then-not-is_within w ↦
          spread_long c.args.new.now c.args.self.now w.is_within.result _ _ _ c.len-len.ensures c.len-step.ensures w.if-step-most.false w.is_within.ensures w.if-not-is_within.true
    ]

pub returns : goal.returns
returns c = (
  c.in_ok-with_between.ensures ∙ ap₂ between c.as_str-2.ensures.chars c.as_str.ensures.chars,
  spread_fits c.args.new.now c.args.self.now c.is_within.result _ _ _ c.len-len.ensures c.len-step.ensures c.if-step-most.false c.is_within.ensures c.if-not-is_within.false,
)
