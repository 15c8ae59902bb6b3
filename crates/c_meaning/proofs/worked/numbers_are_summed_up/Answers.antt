-- What is left to show of `numbers_are_summed_up`.
use Rattle.std.proofs.Common.{refl}
use Rattle.c_meaning.proofs.worked.numbers_are_summed_up.Goals as goal

pub returns-clause-sum : goal.returns-clause-sum
returns-clause-sum c = refl

pub returns-clause-fewer : goal.returns-clause-fewer
returns-clause-fewer c = refl
