use Rattle.std.proofs.Common.{◌≡◌, ◌∙◌, ◌+◌, ◌*◌, ◌-◌, true, rules, sym}
use Rattle.std.specs.Str.{chars}
use Rattle.tx_text.specs.Text.{is_ascii_digit}
use Rattle.tx_tokens.proofs.IntegerLemmas.{capped_low, number_more}
use Rattle.tx_tokens.proofs.integer.number.Goals as goal

pub digits-preserved-then-is_digit : goal.digits-preserved-then-is_digit
digits-preserved-then-is_digit c =
    let t : is_ascii_digit c.in-Some.c ≡ true = sym c.is_digit.ensures ∙ c.if-is_digit.true in (
      search rules,
      number_more c.digits.number c.longer-number.result c.in-Some.c (chars c.digits.rest.now) (chars c.in-Some.more.now) c.in-Some.ensures.value t c.longer-number.ensures ∙ c.digits.invariant.1,
      capped_low (c.digits.number * 10 + (c.in-Some.c - 48)) c.longer-number.result c.longer-number.ensures,
    )
