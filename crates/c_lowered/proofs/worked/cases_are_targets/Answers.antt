-- What is left to show of `cases_are_targets`.
use Rattle.std.proofs.Common.{refl}
use Rattle.std.specs.Fmt.{digits}
use Rattle.c_lowered.proofs.worked.cases_are_targets.Goals as goal

pub returns : goal.returns
unfolding digits
returns c = refl
