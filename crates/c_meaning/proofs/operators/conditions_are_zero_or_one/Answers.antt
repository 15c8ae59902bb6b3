-- What is left to show of `conditions_are_zero_or_one`.
use Rattle.std.proofs.Common.{refl}
use Rattle.c_meaning.proofs.operators.conditions_are_zero_or_one.Goals as goal

pub returns-clause-zero : goal.returns-clause-zero
returns-clause-zero c = refl

pub returns-clause-other : goal.returns-clause-other
returns-clause-other c = refl

pub returns-clause-neither : goal.returns-clause-neither
returns-clause-neither c = refl

pub returns-clause-left : goal.returns-clause-left
returns-clause-left c = refl

pub returns-clause-right : goal.returns-clause-right
returns-clause-right c = refl

pub returns-clause-both : goal.returns-clause-both
returns-clause-both c = refl

pub returns-clause-one : goal.returns-clause-one
returns-clause-one c = refl

pub returns-clause-first : goal.returns-clause-first
returns-clause-first c = refl

pub returns-clause-decided : goal.returns-clause-decided
returns-clause-decided c = refl

pub returns-clause-refuted : goal.returns-clause-refuted
returns-clause-refuted c = refl

pub returns-clause-faulted : goal.returns-clause-faulted
returns-clause-faulted c = refl
