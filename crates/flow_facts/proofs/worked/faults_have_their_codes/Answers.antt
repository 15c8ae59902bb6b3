-- What is left to show of `faults_have_their_codes`.
use Rattle.std.proofs.Common.{refl}
use Rattle.flow_facts.proofs.worked.faults_have_their_codes.Goals as goal

pub returns-clause-divide : goal.returns-clause-divide
returns-clause-divide c = refl

pub returns-clause-uninit : goal.returns-clause-uninit
returns-clause-uninit c = refl

pub returns-clause-mixed : goal.returns-clause-mixed
returns-clause-mixed c = refl

pub returns-clause-bounds : goal.returns-clause-bounds
returns-clause-bounds c = refl

pub returns-clause-dead : goal.returns-clause-dead
returns-clause-dead c = refl

pub returns-clause-kind : goal.returns-clause-kind
returns-clause-kind c = refl

pub returns-clause-pointers : goal.returns-clause-pointers
returns-clause-pointers c = refl
