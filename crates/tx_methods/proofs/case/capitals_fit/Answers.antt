use Rattle.std.proofs.Common.{ap, ◌∙◌}
use Rattle.std.specs.Prelude.{◌==◌, count_by}
use Rattle.tx_methods.proofs.TextLists.{capitals_told}
use Rattle.tx_methods.proofs.case.capitals_fit.Goals as goal

pub returns : goal.returns
returns c =
    capitals_told c.args.text.now _ c.len.result c.doubled-more.result c.len.ensures (c.doubled-more.ensures ∙ ap (count_by (λ d. d == 0xDF)) c.as_str.ensures.chars) c.saturating_add.ensures
