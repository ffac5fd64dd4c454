use Rattle.std.proofs.Common.{◌≡◌, ◌++◌, drop, Ok}
use Rattle.tx_values.specs.Answer.{◌>>=◌}
use Rattle.tx_methods.specs.TextMethods.{texts_in}
use Rattle.tx_methods.proofs.joins.texts_of.Given as goal

abbrev pub invariant-loop-item : goal.invariant-loop-item
invariant-loop-item l = (texts_in (drop l.item-index l.items) >>= (λ texts. Ok (l.texts ++ texts))) ≡ texts_in l.items
