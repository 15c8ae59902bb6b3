-- What is left to show of `outcomes_go_with_their_objects`.
use Rattle.std.proofs.Common.{refl}
use Rattle.lowering_simulation.proofs.worked.outcomes_go_with_their_objects.Goals as goal

pub returns-clause-ended : goal.returns-clause-ended
returns-clause-ended c = refl

pub returns-clause-stopped : goal.returns-clause-stopped
returns-clause-stopped c = refl

pub returns-clause-unfinished : goal.returns-clause-unfinished
returns-clause-unfinished c = refl
