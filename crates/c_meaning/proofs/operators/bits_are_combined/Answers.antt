-- What is left to show of `bits_are_combined`.
use Rattle.std.proofs.Common.{refl}
use Rattle.c_meaning.proofs.operators.bits_are_combined.Goals as goal

pub returns-clause-both : goal.returns-clause-both
returns-clause-both c = refl

pub returns-clause-either : goal.returns-clause-either
returns-clause-either c = refl

pub returns-clause-just_one : goal.returns-clause-just_one
returns-clause-just_one c = refl

pub returns-clause-turned : goal.returns-clause-turned
returns-clause-turned c = refl

pub returns-clause-opposite : goal.returns-clause-opposite
returns-clause-opposite c = refl
