use Rattle.std.proofs.Common.{◌∙◌, sym}
use Rattle.std.specs.Str.{chars}
use Rattle.tx_tokens.proofs.IntegerLemmas.{grouped_end, grouped_other, grouped_twice, low}
use Rattle.tx_tokens.proofs.integer.are_grouped.Goals as goal
use Rattle.tx_tokens.proofs.integer.are_grouped.Goals.{else-c-eq95-via-then-c-eq95+else-not-after_underscore, else-c-eq95-via-else-c-eq95}

pub returns-else-c-eq95 : goal.returns-else-c-eq95
returns-else-c-eq95 c =
    elim c.else-c-eq95.branch [
      | else-c-eq95-via-then-c-eq95+else-not-after_underscore w ↦
          grouped_twice c.args.last c.digits.after_underscore (chars c.digits.rest.now) (chars c.args.text.now) (low c.args.last c.requires) c.digits.invariant.1 c.in-Some.c (chars c.in-Some.more.now) c.in-Some.ensures.value
          (sym c.is_digit_to.ensures ∙ c.if-is_digit_to.false) w.if-not-after_underscore.false
      | else-c-eq95-via-else-c-eq95 w ↦
          grouped_other c.args.last c.digits.after_underscore (chars c.digits.rest.now) (chars c.args.text.now) (low c.args.last c.requires) c.digits.invariant.1 c.in-Some.c (chars c.in-Some.more.now) c.in-Some.ensures.value
          (sym c.is_digit_to.ensures ∙ c.if-is_digit_to.false) w.if-c-eq95.false
    ]

pub returns : goal.returns
returns c =
    grouped_end c.args.last c.digits.after_underscore (chars c.digits.rest.now) (chars c.args.text.now) (low c.args.last c.requires) c.digits.invariant.1 c.in_default.ensures.value
