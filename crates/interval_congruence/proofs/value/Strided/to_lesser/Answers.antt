use Rattle.interval_congruence.proofs.Bounds.{lesser_places}
use Rattle.interval_congruence.proofs.value.Strided.to_lesser.Goals as goal

pub normal-requires-clause-p : goal.normal-requires-clause-p
normal-requires-clause-p c = rw (c.from_to-words.ensures, c.of.ensures, c.of-2.ensures, c.least-greatest.ensures, c.unsigned_greatest.ensures.value, c.unsigned_greatest-2.ensures.value)
    (lesser_places c.args.self c.args.other (rw (← c.unsigned_greatest.ensures.value) c.unsigned_greatest.ensures.high))
