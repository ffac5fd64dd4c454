use Rattle.tx_values.proofs.OrderIsTotal.{numbers_ordered, numbers_total, texts_ordered, texts_total}
use Rattle.tx_values.proofs.laws.numbers_and_texts_are_in_order.Goals as goal

pub returns : goal.returns
returns c = record { numbers = numbers_total; texts = texts_total; numbers_transitive = numbers_ordered; texts_transitive = texts_ordered }
