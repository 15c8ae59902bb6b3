-- What is left to show of `a_second_declaration_has_a_frame_of_its_own`.
use Rattle.std.proofs.Common.{refl}
use Rattle.std.specs.Fmt.{digits}
use Rattle.c_lowered.proofs.worked.a_second_declaration_has_a_frame_of_its_own.Goals as goal

pub returns : goal.returns
unfolding digits
returns c = refl
