use Rattle.interval_congruence.proofs.Fits.{lowered_places}
use Rattle.progressions.specs.Progressions.{IsProgression}
use Rattle.interval_congruence.proofs.value.Strided.complement.Goals as goal

pub normal-requires-clause-p : goal.normal-requires-clause-p
normal-requires-clause-p c =
    let is : IsProgression c.numbers-numbers.result = rw c.numbers-numbers.ensures.value c.numbers-numbers.ensures.stride.placed.progression in
    rw (c.moved.ensures, c.negated-negated.ensures, c.of.ensures) (lowered_places c.numbers-numbers.result is c.numbers-numbers.ensures.small)
