use Rattle.transfer_rules.proofs.TransferLemmas.{address_faults_told}
use Rattle.transfer_rules.proofs.step_laws.the_faults_of_an_address_are_told.Goals as goal

pub returns : goal.returns
returns c = address_faults_told
