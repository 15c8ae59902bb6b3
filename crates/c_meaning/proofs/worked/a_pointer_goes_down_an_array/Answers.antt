-- What is left to show of `a_pointer_goes_down_an_array`.
use Rattle.std.proofs.Common.{refl}
use Rattle.c_meaning.proofs.worked.a_pointer_goes_down_an_array.Goals as goal

pub returns-clause-two : goal.returns-clause-two
returns-clause-two c = refl

pub returns-clause-one : goal.returns-clause-one
returns-clause-one c = refl
