use Rattle.std.proofs.Common.{◌≡◌, ◌≢◌, ◌∙◌, Ok, Err, IfOk, IfErr, ap, subst, sym}
use Rattle.std.specs.Str.{chars}
use Rattle.tx_tokens.specs.Tokens.{Tokens, tokens_of}
use Rattle.tx_tokens.specs.declared.token.TokenError.TheVariants.{NoMemory}
use Rattle.tx_tokens.proofs.EventLemmas.{whole}
use Rattle.tx_tokens.proofs.script.tokens.Goals as goal

pub returns-clause-ok : goal.returns-clause-ok
returns-clause-ok c =
    let P : Tokens → Type 0 = λ x. IfOk c.read_lines.result (λ ts. x ≡ Ok ts) in
    let same = ap tokens_of (sym c.as_str.ensures.chars) ∙ whole c.new.result (chars c.as_str.result.now) (chars c.without_mark-dropped.result.1.now) c.without_mark-dropped.result.0 c.without_mark-dropped.ensures.events c.new.ensures.state c.new.ensures.answer in
    subst P (sym same) c.read_lines.ensures.ok

pub returns-clause-err : goal.returns-clause-err
returns-clause-err c =
    let P : Tokens → Type 0 = λ x. IfErr c.read_lines.result (λ e. e ≢ NoMemory → x ≡ Err e) in
    let same = ap tokens_of (sym c.as_str.ensures.chars) ∙ whole c.new.result (chars c.as_str.result.now) (chars c.without_mark-dropped.result.1.now) c.without_mark-dropped.result.0 c.without_mark-dropped.ensures.events c.new.ensures.state c.new.ensures.answer in
    subst P (sym same) c.read_lines.ensures.err
