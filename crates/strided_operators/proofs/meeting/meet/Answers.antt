use Rattle.strided_operators.proofs.Parts.{steps_fit}
use Rattle.strided_operators.proofs.meeting.meet.Goals as goal

pub common_divisor-requires : goal.common_divisor-requires
common_divisor-requires c = steps_fit c.args.p.now c.args.q.now c.requires.first c.requires.second
