use Rattle.tx_values.specs.Laws.{IsNumber, IsText}
use Rattle.tx_methods.proofs.FirstExtremes.{extremes}
use Rattle.tx_methods.proofs.laws.extremes_are_first.Goals as goal

pub returns : goal.returns
returns c =
    let order = c.numbers_and_texts_are_in_order.ensures in
    let alike = c.equality_is_an_equivalence.ensures.transitive in
    record {
      numbers = extremes IsNumber order.numbers order.numbers_transitive alike;
      texts = extremes IsText order.texts order.texts_transitive alike;
    }
