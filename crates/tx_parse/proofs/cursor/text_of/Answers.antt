use Rattle.std.proofs.Common.{sym, ◌∙◌}
use Rattle.tx_parse.proofs.Fronts.{text_of-none}
use Rattle.tx_parse.proofs.cursor.text_of.Goals as goal

pub returns-in_default : goal.returns-in_default
returns-in_default c = c.new.ensures ∙ sym (text_of-none _ (λ e. c.in_default.not-Name (c.requires ∙ e)) (λ e. c.in_default.not-Quoted (c.requires ∙ e)))
