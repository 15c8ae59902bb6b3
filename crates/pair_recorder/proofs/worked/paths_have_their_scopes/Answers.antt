-- What is left to show of `paths_have_their_scopes`.
use Rattle.std.proofs.Common.{refl}
use Rattle.pair_recorder.proofs.worked.paths_have_their_scopes.Goals as goal

pub returns-clause-three : goal.returns-clause-three
returns-clause-three c = refl

pub returns-clause-added : goal.returns-clause-added
returns-clause-added c = refl

pub returns-clause-kept : goal.returns-clause-kept
returns-clause-kept c = refl
