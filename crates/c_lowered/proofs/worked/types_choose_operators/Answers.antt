-- What is left to show of `types_choose_operators`.
use Rattle.std.proofs.Common.{refl}
use Rattle.std.specs.Fmt.{digits}
use Rattle.c_lowered.proofs.worked.types_choose_operators.Goals as goal

pub returns : goal.returns
unfolding digits
returns c = refl
