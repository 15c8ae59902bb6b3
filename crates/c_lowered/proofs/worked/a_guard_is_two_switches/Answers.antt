-- What is left to show of `a_guard_is_two_switches`.
use Rattle.std.proofs.Common.{refl}
use Rattle.std.specs.Fmt.{digits}
use Rattle.c_lowered.proofs.worked.a_guard_is_two_switches.Goals as goal

pub returns : goal.returns
unfolding digits
returns c = refl
