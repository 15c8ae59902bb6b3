use Rattle.interval_congruence.proofs.Takes.{unsigned_words}
use Rattle.interval_congruence.proofs.value.Strided.u_div.Goals as goal

pub unsigned_pair-requires-clause-takes : goal.unsigned_pair-requires-clause-takes
unsigned_pair-requires-clause-takes c s t = unsigned_words c.args.self c.args.other s t
