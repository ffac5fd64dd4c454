use Rattle.std.proofs.Common.{◌≡◌, ◌∙◌, ◌+◌, Some, length, ap, refl, arith}
use Rattle.std.specs.Str.{chars}
use Rattle.tx_tokens.specs.Pieces.{quoted}
use Rattle.tx_tokens.proofs.LiteralLemmas.{literal_is, literal_rest, literal_size, no_literal}
use Rattle.tx_tokens.proofs.Slices.{length-chars}
use Rattle.tx_tokens.proofs.literal.quoted.Goals as goal

pub returns-in_default-clause-none : goal.returns-in_default-clause-none
returns-in_default-clause-none c = λ _. no_literal c.args.quote (chars c.args.text.now) (c.in_default.ensures.none refl)

pub overflow_add-size : goal.overflow_add-size
overflow_add-size c =
    omega (arith, c.len-size.ensures, ap length c.in_ok-value.ensures, literal_size c.args.quote (chars c.args.text.now) (chars c.in-Some.before.now) (chars c.in-Some.behind.now) c.in-Some.ensures.some, length-chars c.args.text.now c.utf8.text)

pub returns-clause-some : goal.returns-clause-some
returns-clause-some c =
    let plain = c.has_escape.ensures c.if-has_escape.false in
    let size : c.len-size.result ≡ length (chars c.in-Some.before.now) = c.len-size.ensures ∙ ap length c.in_ok-value.ensures in
    rw (size, c.in_ok-value.ensures)
    (literal_is c.args.quote (chars c.args.text.now) (chars c.in-Some.before.now) (chars c.in-Some.behind.now) c.in-Some.ensures.some c.in-Some.ensures.before plain)

pub returns-clause-rest : goal.returns-clause-rest
returns-clause-rest c =
    let size : c.len-size.result ≡ length (chars c.in-Some.before.now) = c.len-size.ensures ∙ ap length c.in_ok-value.ensures in
    rw size (literal_rest c.args.quote (chars c.args.text.now) (chars c.in-Some.before.now) (chars c.in-Some.behind.now) c.in-Some.ensures.some)

pub returns-clause-size : goal.returns-clause-size
returns-clause-size c =
    omega (arith, c.len-size.ensures, ap length c.in_ok-value.ensures, literal_size c.args.quote (chars c.args.text.now) (chars c.in-Some.before.now) (chars c.in-Some.behind.now) c.in-Some.ensures.some, length-chars c.args.text.now c.utf8.text)
