use Rattle.std.proofs.Common.{arith}
use Rattle.std.proofs.lemmas.Int.{ints}
use Rattle.progressions.specs.Progressions.{IsProgression}
use Rattle.interval_congruence.proofs.Fits.{sums_fit, sums_place}
use Rattle.interval_congruence.proofs.value.Strided.add.Goals as goal

pub moved-one-requires-clause-lo : goal.moved-one-requires-clause-lo
moved-one-requires-clause-lo c = rw c.sums-sums.ensures ((sums_fit c.of-2.result c.numbers-first.result c.numbers-second.result (omega (arith, ints, c.of-2.ensures)) (omega (arith, ints, c.of-2.ensures)) c.numbers-first.ensures.small c.numbers-second.ensures.small).0)

pub moved-one-requires-clause-hi : goal.moved-one-requires-clause-hi
moved-one-requires-clause-hi c = rw c.sums-sums.ensures ((sums_fit c.of-2.result c.numbers-first.result c.numbers-second.result (omega (arith, ints, c.of-2.ensures)) (omega (arith, ints, c.of-2.ensures)) c.numbers-first.ensures.small c.numbers-second.ensures.small).1)

pub with_carry-by_zero-requires-clause-sum : goal.with_carry-by_zero-requires-clause-sum
with_carry-by_zero-requires-clause-sum c =
    let first : IsProgression c.numbers-first.result = rw c.numbers-first.ensures.value c.numbers-first.ensures.stride.placed.progression in
    let second : IsProgression c.numbers-second.result = rw c.numbers-second.ensures.value c.numbers-second.ensures.stride.placed.progression in
    rw (c.moved-zero.ensures, c.sums-sums.ensures) (sums_place c.of.result c.numbers-first.result c.numbers-second.result (omega (arith, ints, c.of.ensures)) (omega (arith, ints, c.of.ensures)) first second c.numbers-first.ensures.small c.numbers-second.ensures.small)

pub with_carry-requires-clause-sum : goal.with_carry-requires-clause-sum
with_carry-requires-clause-sum c =
    let first : IsProgression c.numbers-first.result = rw c.numbers-first.ensures.value c.numbers-first.ensures.stride.placed.progression in
    let second : IsProgression c.numbers-second.result = rw c.numbers-second.ensures.value c.numbers-second.ensures.stride.placed.progression in
    rw (c.moved-one.ensures, c.sums-sums.ensures) (sums_place c.of-2.result c.numbers-first.result c.numbers-second.result (omega (arith, ints, c.of-2.ensures)) (omega (arith, ints, c.of-2.ensures)) first second c.numbers-first.ensures.small c.numbers-second.ensures.small)
