-- What is left to show of `calls_and_returns_agree`.
use Rattle.std.proofs.Common.{refl}
use Rattle.alf_faults.proofs.worked.calls_and_returns_agree.Goals as goal

pub returns-clause-behind : goal.returns-clause-behind
returns-clause-behind c = refl

pub returns-clause-behind_lost : goal.returns-clause-behind_lost
returns-clause-behind_lost c = refl

pub returns-clause-before : goal.returns-clause-before
returns-clause-before c = refl

pub returns-clause-before_lost : goal.returns-clause-before_lost
returns-clause-before_lost c = refl
