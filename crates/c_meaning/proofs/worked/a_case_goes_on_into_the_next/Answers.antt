-- What is left to show of `a_case_goes_on_into_the_next`.
use Rattle.std.proofs.Common.{refl}
use Rattle.c_meaning.proofs.worked.a_case_goes_on_into_the_next.Goals as goal

pub returns : goal.returns
returns c = refl
