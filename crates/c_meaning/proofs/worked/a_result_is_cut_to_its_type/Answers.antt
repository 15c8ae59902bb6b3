-- What is left to show of `a_result_is_cut_to_its_type`.
use Rattle.std.proofs.Common.{refl}
use Rattle.c_meaning.proofs.worked.a_result_is_cut_to_its_type.Goals as goal

pub returns-clause-call : goal.returns-clause-call
returns-clause-call c = refl

pub returns-clause-root : goal.returns-clause-root
returns-clause-root c = refl
