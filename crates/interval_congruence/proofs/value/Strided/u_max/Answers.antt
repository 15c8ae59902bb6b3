use Rattle.interval_congruence.proofs.Takes.{unsigned_fars}
use Rattle.interval_congruence.proofs.value.Strided.u_max.Goals as goal

pub unsigned_pair-requires-clause-takes : goal.unsigned_pair-requires-clause-takes
unsigned_pair-requires-clause-takes c s t = unsigned_fars c.args.self c.args.other s t
