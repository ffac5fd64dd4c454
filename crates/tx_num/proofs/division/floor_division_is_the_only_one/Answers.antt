use Rattle.tx_num.proofs.Floors.{floor_law}
use Rattle.tx_num.proofs.division.floor_division_is_the_only_one.Goals as goal

pub returns : goal.returns
returns c = floor_law
