use Rattle.interval_congruence.proofs.Takes.{unsigned_halves}
use Rattle.interval_congruence.proofs.value.Strided.conc.Goals as goal

pub unsigned_pair-requires-clause-takes : goal.unsigned_pair-requires-clause-takes
unsigned_pair-requires-clause-takes c s t = unsigned_halves c.args.self c.args.other s t c.requires
