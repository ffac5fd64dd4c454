use Rattle.tx_values.specs.Laws.{IsNumber, IsText}
use Rattle.tx_ops.proofs.LawLemmas.{less_or_equal}
use Rattle.tx_ops.proofs.laws.less_equal_is_less_or_equal.Goals as goal

pub returns : goal.returns
returns c = record {
  numbers = less_or_equal IsNumber c.numbers_and_texts_are_in_order.ensures.numbers;
  texts = less_or_equal IsText c.numbers_and_texts_are_in_order.ensures.texts;
}
