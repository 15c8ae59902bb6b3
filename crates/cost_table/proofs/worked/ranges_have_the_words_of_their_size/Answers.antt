-- What is left to show of `ranges_have_the_words_of_their_size`.
use Rattle.std.proofs.Common.{arith}
use Rattle.std.proofs.lemmas.Int.{ints}
use Rattle.cost_table.proofs.worked.ranges_have_the_words_of_their_size.Goals as goal

pub returns-clause-unsigned : goal.returns-clause-unsigned
returns-clause-unsigned c = record { ordered = omega (arith, ints); least = omega (arith, ints); most = omega (arith, ints); narrow = omega (arith, ints) }

pub returns-clause-signed : goal.returns-clause-signed
returns-clause-signed c = record { ordered = omega (arith, ints); least = omega (arith, ints); most = omega (arith, ints); narrow = omega (arith, ints) }

pub returns-clause-mixed : goal.returns-clause-mixed
returns-clause-mixed c = record { ordered = omega (arith, ints); least = omega (arith, ints); most = omega (arith, ints); narrow = omega (arith, ints) }

pub returns-clause-too_many : goal.returns-clause-too_many
returns-clause-too_many c = λ range. let no = range.narrow in omega (arith, ints, no)

pub returns-clause-too_great : goal.returns-clause-too_great
returns-clause-too_great c = λ range. let no = range.most in omega (arith, ints, no)

pub returns-clause-too_low : goal.returns-clause-too_low
returns-clause-too_low c = λ range. let no = range.least in omega (arith, ints, no)

pub returns-clause-turned : goal.returns-clause-turned
returns-clause-turned c = λ range. let no = range.ordered in omega (arith, ints, no)
