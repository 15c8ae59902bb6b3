-- What is left to show of `names_have_their_numbers`.
use Rattle.std.proofs.Common.{refl}
use Rattle.alf_check.proofs.worked.names_have_their_numbers.Goals as goal

pub returns-clause-frames : goal.returns-clause-frames
returns-clause-frames c = refl

pub returns-clause-callee : goal.returns-clause-callee
returns-clause-callee c = refl

pub returns-clause-held : goal.returns-clause-held
returns-clause-held c = refl

pub returns-clause-exported : goal.returns-clause-exported
returns-clause-exported c = refl

pub returns-clause-root : goal.returns-clause-root
returns-clause-root c = refl

pub returns-clause-calls : goal.returns-clause-calls
returns-clause-calls c = refl

pub returns-clause-shapes : goal.returns-clause-shapes
returns-clause-shapes c = refl
