use Rattle.tx_ops.proofs.ValidityLemmas.{all_results}
use Rattle.tx_ops.proofs.laws.results_are_valid.Goals as goal

pub returns : goal.returns
returns c = all_results c.validity_goes_by_parts.ensures c.floor_division_is_the_only_one.ensures
