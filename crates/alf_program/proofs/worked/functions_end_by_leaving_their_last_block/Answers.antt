-- What is left to show of `functions_end_by_leaving_their_last_block`.
use Rattle.std.proofs.Common.{refl}
use Rattle.alf_program.proofs.worked.functions_end_by_leaving_their_last_block.Goals as goal

pub returns-clause-none : goal.returns-clause-none
returns-clause-none c = refl

pub returns-clause-returned : goal.returns-clause-returned
returns-clause-returned c = refl

pub returns-clause-jump : goal.returns-clause-jump
returns-clause-jump c = refl

pub returns-clause-call : goal.returns-clause-call
returns-clause-call c = refl

pub returns-clause-label : goal.returns-clause-label
returns-clause-label c = refl
