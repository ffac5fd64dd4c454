use Rattle.std.proofs.Common.{◌≡◌, ◌≢◌, ◌∙◌, Ok, Err, IfOk, IfErr, rules, ap, arith, subst, sym}
use Rattle.std.specs.Str.{chars}
use Rattle.tx_tokens.specs.Lines.{lines}
use Rattle.tx_tokens.specs.Layout.{events}
use Rattle.tx_tokens.specs.Tokens.{Tokens}
use Rattle.tx_tokens.specs.Calls.Reading.{answer, state_of}
use Rattle.tx_tokens.specs.declared.token.TokenError.TheVariants.{NoMemory}
use Rattle.tx_tokens.proofs.EventLemmas.{handed_on, line_failed, line_on, text_ended}
use Rattle.tx_tokens.proofs.script.read_lines.Goals as goal

pub lines-preserved : goal.lines-preserved
lines-preserved c =
    let moved = c.in_ok-line.ensures.state in (
      search rules,
      c.lines.invariant.1 ∙ line_on c.lines.reader c.line.new.self (chars c.lines.rest.now) (chars c.in-Some.behind.now) (chars c.in-Some.content.now) c.in-Some.ending c.in-Some.ensures.value c.in_ok-line.ensures.gave moved,
      omega (arith, ap (λ s. s.place) moved, c.in-Some.ensures.sizes, c.lines.invariant.2),
      omega (arith, ap (λ s. s.line) moved, c.in-Some.ensures.sizes, c.in-Some.ensures.some, c.lines.invariant.3),
    )

pub returns-clause-ok : goal.returns-clause-ok
returns-clause-ok c =
    let P : Tokens → Type 0 = λ x. IfOk c.finish.result (λ ts. x ≡ Ok ts) in
    subst P (sym (c.lines.invariant.1 ∙ text_ended c.lines.reader (chars c.lines.rest.now) c.in_default.ensures.value)) c.finish.ensures.ok

pub returns-clause-err : goal.returns-clause-err
returns-clause-err c =
    let P : Tokens → Type 0 = λ x. IfErr c.finish.result (λ e. e ≢ NoMemory → x ≡ Err e) in
    subst P (sym (c.lines.invariant.1 ∙ text_ended c.lines.reader (chars c.lines.rest.now) c.in_default.ensures.value)) c.finish.ensures.err

pub returns-in_err-line-clause-err : goal.returns-in_err-line-clause-err
returns-in_err-line-clause-err c =
    handed_on c.from_residual.result c.in_err-line.field-0.0 (λ e. e ≢ NoMemory → answer c.args.reader (events (state_of c.args.reader) (lines (chars c.args.text.now))) ≡ Err e) c.from_residual.ensures.1
    (λ n. c.lines.invariant.1 ∙ line_failed c.lines.reader (chars c.lines.rest.now) (chars c.in-Some.behind.now) (chars c.in-Some.content.now) c.in-Some.ending c.in_err-line.field-0.0 c.in-Some.ensures.value (c.in_err-line.ensures.failed n))
