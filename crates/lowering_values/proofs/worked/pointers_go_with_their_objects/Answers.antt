-- What is left to show of `pointers_go_with_their_objects`.
use Rattle.std.proofs.Common.{refl}
use Rattle.lowering_values.proofs.worked.pointers_go_with_their_objects.Goals as goal

pub returns-clause-word : goal.returns-clause-word
returns-clause-word c = refl

pub returns-clause-pointer : goal.returns-clause-pointer
returns-clause-pointer c = refl

pub returns-clause-owner : goal.returns-clause-owner
returns-clause-owner c = refl

pub returns-clause-none : goal.returns-clause-none
returns-clause-none c = refl
