use Rattle.std.proofs.Common.{arith}
use Rattle.std.proofs.lemmas.Int.{ints}
use Rattle.interval_congruence.proofs.value.Strided.has.Goals as goal

pub has_number-requires-else-has_number-clause-low : goal.has_number-requires-else-has_number-clause-low
has_number-requires-else-has_number-clause-low c = omega (arith, ints, c.sub-below.ensures, c.of_word-n.ensures.value, c.power-up.ensures.most)
