-- What is left to show of `a_loop_without_end_uses_up_its_turns`.
use Rattle.std.proofs.Common.{refl}
use Rattle.c_meaning.proofs.worked.a_loop_without_end_uses_up_its_turns.Goals as goal

pub returns : goal.returns
returns c = refl
