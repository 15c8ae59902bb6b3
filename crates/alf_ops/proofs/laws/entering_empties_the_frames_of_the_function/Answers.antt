use Rattle.alf_ops.proofs.LoadsAndStores.{enter_empties, enter_keeps}
use Rattle.alf_ops.proofs.laws.entering_empties_the_frames_of_the_function.Goals as goal

pub returns-clause-empties : goal.returns-clause-empties
returns-clause-empties c = enter_empties

pub returns-clause-others : goal.returns-clause-others
returns-clause-others c = enter_keeps
