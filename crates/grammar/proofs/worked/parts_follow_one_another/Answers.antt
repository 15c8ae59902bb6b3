-- What is left to show of `parts_follow_one_another`.
use Rattle.std.proofs.Common.{refl}
use Rattle.grammar.proofs.worked.parts_follow_one_another.Goals as goal

pub returns-clause-one : goal.returns-clause-one
returns-clause-one c = refl

pub returns-clause-departs : goal.returns-clause-departs
returns-clause-departs c = refl

pub returns-clause-end : goal.returns-clause-end
returns-clause-end c = refl

pub returns-clause-many : goal.returns-clause-many
returns-clause-many c = refl

pub returns-clause-chain : goal.returns-clause-chain
returns-clause-chain c = refl
