use Rattle.std.proofs.Common.{◌∷◌, [], ◌++◌, ◌∙◌, ap, sym}
use Rattle.std.specs.Str.{chars}
use Rattle.tx_text.proofs.Cases.{spells_nothing, spells_something}
use Rattle.tx_text.proofs.Words.{filter_nothing, filter_some}
use Rattle.tx_text.proofs.split.push_some.Goals as goal

pub returns-then-is_empty : goal.returns-then-is_empty
returns-then-is_empty c =
    filter_nothing (chars c.args.text.now) c.args.found.now (spells_nothing c.args.text.now (sym c.is_empty.ensures ∙ c.if-is_empty.true))

pub returns : goal.returns
returns c =
    filter_some (chars c.args.text.now) c.args.found.now _ (spells_something c.args.text.now c.utf8.text (sym c.is_empty.ensures ∙ c.if-is_empty.false))
    (c.in_ok-push.ensures.ok ∙ ap (λ t. c.args.found.now ++ t ∷ []) c.in_ok-from_str.ensures)
