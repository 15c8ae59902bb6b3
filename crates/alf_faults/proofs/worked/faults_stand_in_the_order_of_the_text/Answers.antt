-- What is left to show of `faults_stand_in_the_order_of_the_text`.
use Rattle.std.proofs.Common.{refl}
use Rattle.alf_faults.proofs.worked.faults_stand_in_the_order_of_the_text.Goals as goal

pub returns-clause-names : goal.returns-clause-names
returns-clause-names c = refl

pub returns-clause-twice : goal.returns-clause-twice
returns-clause-twice c = refl

pub returns-clause-targets : goal.returns-clause-targets
unfolding Rattle.std.specs.Fmt.digits
returns-clause-targets c = refl
