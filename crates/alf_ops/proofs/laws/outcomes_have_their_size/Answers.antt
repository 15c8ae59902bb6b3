use Rattle.alf_ops.proofs.OutcomeSizes.{outcome_fits}
use Rattle.alf_ops.proofs.laws.outcomes_have_their_size.Goals as goal

pub returns : goal.returns
returns c = λ op sizes values result. outcome_fits sizes values result op
