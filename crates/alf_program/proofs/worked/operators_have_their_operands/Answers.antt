-- What is left to show of `operators_have_their_operands`.
use Rattle.std.proofs.Common.{refl}
use Rattle.alf_program.proofs.worked.operators_have_their_operands.Goals as goal

pub returns-clause-negative : goal.returns-clause-negative
returns-clause-negative c = refl

pub returns-clause-sum : goal.returns-clause-sum
returns-clause-sum c = refl

pub returns-clause-selection : goal.returns-clause-selection
returns-clause-selection c = refl

pub returns-clause-choice : goal.returns-clause-choice
returns-clause-choice c = refl

pub returns-clause-deep : goal.returns-clause-deep
returns-clause-deep c = refl

pub returns-clause-bytes : goal.returns-clause-bytes
returns-clause-bytes c = refl
