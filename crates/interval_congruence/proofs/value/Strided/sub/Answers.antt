use Rattle.std.proofs.Common.{arith}
use Rattle.std.proofs.lemmas.Int.{ints}
use Rattle.progressions.specs.Progressions.{IsProgression}
use Rattle.interval_congruence.proofs.Fits.{differences_fit, differences_place}
use Rattle.interval_congruence.proofs.value.Strided.sub.Goals as goal

pub moved-zero-requires-clause-lo : goal.moved-zero-requires-clause-lo
moved-zero-requires-clause-lo c = rw c.differences-differences.ensures ((differences_fit c.of.result c.numbers-first.result c.numbers-second.result (omega (arith, ints, c.of.ensures)) (omega (arith, ints, c.of.ensures)) c.numbers-first.ensures.small c.numbers-second.ensures.small).0)

pub moved-zero-requires-clause-hi : goal.moved-zero-requires-clause-hi
moved-zero-requires-clause-hi c = rw c.differences-differences.ensures ((differences_fit c.of.result c.numbers-first.result c.numbers-second.result (omega (arith, ints, c.of.ensures)) (omega (arith, ints, c.of.ensures)) c.numbers-first.ensures.small c.numbers-second.ensures.small).1)

pub with_carry-by_zero-requires-clause-sum : goal.with_carry-by_zero-requires-clause-sum
with_carry-by_zero-requires-clause-sum c =
    let first : IsProgression c.numbers-first.result = rw c.numbers-first.ensures.value c.numbers-first.ensures.stride.placed.progression in
    let second : IsProgression c.numbers-second.result = rw c.numbers-second.ensures.value c.numbers-second.ensures.stride.placed.progression in
    rw (c.moved-zero.ensures, c.differences-differences.ensures) (differences_place c.of.result c.numbers-first.result c.numbers-second.result (omega (arith, ints, c.of.ensures)) (omega (arith, ints, c.of.ensures)) first second c.numbers-first.ensures.small c.numbers-second.ensures.small)

pub with_carry-requires-clause-sum : goal.with_carry-requires-clause-sum
with_carry-requires-clause-sum c =
    let first : IsProgression c.numbers-first.result = rw c.numbers-first.ensures.value c.numbers-first.ensures.stride.placed.progression in
    let second : IsProgression c.numbers-second.result = rw c.numbers-second.ensures.value c.numbers-second.ensures.stride.placed.progression in
    rw (c.moved-one.ensures, c.differences-differences.ensures) (differences_place c.of-2.result c.numbers-first.result c.numbers-second.result (omega (arith, ints, c.of-2.ensures)) (omega (arith, ints, c.of-2.ensures)) first second c.numbers-first.ensures.small c.numbers-second.ensures.small)
