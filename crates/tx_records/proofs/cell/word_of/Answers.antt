use Rattle.std.proofs.Common.{◌∙◌}
use Rattle.tx_records.proofs.CellLemmas.{false_text, true_text}
use Rattle.tx_records.proofs.cell.word_of.Goals as goal

pub returns-then-truth : goal.returns-then-truth
returns-then-truth c = rw c.if-truth.true (c.in_ok-word.ensures ∙ true_text)

pub returns : goal.returns
returns c = rw c.if-truth.false (c.in_ok-text.ensures ∙ false_text)
