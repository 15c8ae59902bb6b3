-- What is left to show of `a_pointer_moves_by_bytes`.
use Rattle.std.proofs.Common.{refl}
use Rattle.std.specs.Fmt.{digits}
use Rattle.c_lowered.proofs.worked.a_pointer_moves_by_bytes.Goals as goal

pub returns : goal.returns
unfolding digits
returns c = refl
