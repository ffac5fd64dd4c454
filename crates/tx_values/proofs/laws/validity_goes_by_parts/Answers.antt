use Rattle.tx_values.proofs.ValidityByParts.{by_parts}
use Rattle.tx_values.proofs.laws.validity_goes_by_parts.Goals as goal

pub returns : goal.returns
returns c = by_parts
