use Rattle.tx_ops.proofs.DivisionLemmas.{divisions, identities}
use Rattle.tx_ops.proofs.laws.quotient_and_remainder_make_up_the_dividend.Goals as goal

pub returns : goal.returns
returns c = record { numbers = divisions c.floor_division_is_the_only_one.ensures; operators = identities c.floor_division_is_the_only_one.ensures }
