use Rattle.interval_congruence.proofs.Takes.{signed_fars}
use Rattle.interval_congruence.proofs.value.Strided.s_min.Goals as goal

pub signed_pair-requires-clause-takes : goal.signed_pair-requires-clause-takes
signed_pair-requires-clause-takes c s t = signed_fars c.args.self c.args.other s t
