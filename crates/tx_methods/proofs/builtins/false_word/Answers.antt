use Rattle.std.proofs.Common.{ap, ◌∙◌}
use Rattle.tx_values.specs.declared.value.Value.TheVariants as value
use Rattle.tx_methods.proofs.Words.{false_text}
use Rattle.tx_methods.proofs.builtins.false_word.Goals as goal

pub returns : goal.returns
returns c = ap value.Text (c.in_ok-from_str.ensures ∙ false_text)
