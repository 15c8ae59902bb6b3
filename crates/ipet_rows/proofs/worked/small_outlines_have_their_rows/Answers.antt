-- What is left to show of `small_outlines_have_their_rows`.
use Rattle.std.proofs.Common.{refl}
use Rattle.ipet_rows.proofs.worked.small_outlines_have_their_rows.Goals as goal

pub returns-clause-block : goal.returns-clause-block
returns-clause-block c = refl

pub returns-clause-turns : goal.returns-clause-turns
returns-clause-turns c = refl

pub returns-clause-fault : goal.returns-clause-fault
returns-clause-fault c = refl

pub returns-clause-pair : goal.returns-clause-pair
returns-clause-pair c = refl

pub returns-clause-ends : goal.returns-clause-ends
returns-clause-ends c = refl
