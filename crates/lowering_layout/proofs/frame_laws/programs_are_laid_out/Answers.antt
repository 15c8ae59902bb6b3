use Rattle.lowering_layout.proofs.LaidOut.{laid_out}
use Rattle.lowering_layout.proofs.frame_laws.programs_are_laid_out.Goals as goal

pub returns : goal.returns
returns c = λ unit root names. laid_out unit names root c.events_keep_agreement.ensures c.constants_agree.ensures
