use Rattle.std.proofs.Common.{◌++◌, ap, ◌∙◌, IsUtf8, subst}
use Rattle.std.specs.Str.{chars}
use Rattle.std.proofs.lemmas.Str.{chars-append}
use Rattle.tx_text.proofs.store.extended.Goals as goal

pub returns-then-more-front-clause-bytes : goal.returns-then-more-front-clause-bytes
returns-then-more-front-clause-bytes c =
    ap chars c.push_str.ensures.bytes ∙ chars-append c.args.text.bytes c.args.more.now (subst IsUtf8 c.as_str-front.ensures.value c.as_str-front.utf8)

pub returns-clause-bytes : goal.returns-clause-bytes
returns-clause-bytes c =
    ap chars (c.of_string.ensures.bytes ∙ (c.in_ok-push_str-2.ensures.bytes
    ∙ ap (λ s. s ++ c.args.more.now) (c.in_ok-push_str.ensures.bytes ∙ (ap (λ s. s ++ c.as_str-front.result.now) c.in_ok-longer.ensures.bytes ∙ c.as_str-front.ensures.value))))
    ∙ chars-append c.args.text.bytes c.args.more.now (subst IsUtf8 c.as_str-front.ensures.value c.as_str-front.utf8)
