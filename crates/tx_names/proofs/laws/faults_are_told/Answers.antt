use Rattle.tx_names.proofs.FaultsTold.{faults_told}
use Rattle.tx_names.proofs.laws.faults_are_told.Goals as goal

pub returns : goal.returns
returns c = faults_told
