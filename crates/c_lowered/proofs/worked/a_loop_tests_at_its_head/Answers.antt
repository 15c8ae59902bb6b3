-- What is left to show of `a_loop_tests_at_its_head`.
use Rattle.std.proofs.Common.{refl}
use Rattle.std.specs.Fmt.{digits}
use Rattle.c_lowered.proofs.worked.a_loop_tests_at_its_head.Goals as goal

pub returns : goal.returns
unfolding digits
returns c = refl
