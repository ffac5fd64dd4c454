use Rattle.tx_values.proofs.Equivalence.{reflexive, symmetric, transitive}
use Rattle.tx_values.proofs.laws.equality_is_an_equivalence.Goals as goal

pub returns : goal.returns
returns c = record { reflexive = reflexive; symmetric = λ a b k. symmetric a k b; transitive = transitive }
