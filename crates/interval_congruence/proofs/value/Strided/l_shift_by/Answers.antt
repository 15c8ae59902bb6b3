use Rattle.std.proofs.Common.{◌^◌}
use Rattle.progressions.specs.Progressions.{IsProgression}
use Rattle.progressions.specs.ImageLaws.{multiples_is}
use Rattle.strided_rules.specs.PlacedLaws.{norm_placed}
use Rattle.interval_congruence.proofs.value.Strided.l_shift_by.Goals as goal

pub of-requires-clause-placed : goal.of-requires-clause-placed
of-requires-clause-placed c =
    let is : IsProgression c.numbers-numbers.result = rw c.numbers-numbers.ensures.value c.numbers-numbers.ensures.stride.placed.progression in
    rw c.shifted_left.ensures (norm_placed c.size-size.result _ c.size-size.ensures.size.least (multiples_is (2 ^ c.args.bits) c.numbers-numbers.result is))
