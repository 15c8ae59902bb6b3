use Rattle.progressions.specs.ProgressionLaws.{placed_small}
use Rattle.interval_congruence.proofs.value.Strided.numbers.Goals as goal

pub returns-clause-small : goal.returns-clause-small
returns-clause-small c =
    let is = c.progression.ensures.stride in
    rw c.progression.ensures.value (placed_small _ _ is.size.least is.size.most is.placed)
