-- What is left to show of `tasks_have_the_numbers_of_their_keys`.
use Rattle.std.proofs.Common.{[], refl, arith}
use Rattle.std.proofs.lemmas.Int.{ints}
use Rattle.cost_table.proofs.worked.tasks_have_the_numbers_of_their_keys.Goals as goal

pub returns-clause-entry : goal.returns-clause-entry
returns-clause-entry c = refl

pub returns-clause-task : goal.returns-clause-task
returns-clause-task c = refl

pub returns-clause-order : goal.returns-clause-order
returns-clause-order c = refl

pub returns-clause-missing : goal.returns-clause-missing
returns-clause-missing c = refl

pub returns-clause-equal : goal.returns-clause-equal
returns-clause-equal c = record { cost = record { low = omega (arith, ints); high = omega (arith, ints) }; period = record { low = omega (arith, ints); high = omega (arith, ints) }; deadline = record { low = omega (arith, ints); high = omega (arith, ints) }; priority = record { low = omega (arith, ints); high = omega (arith, ints) }; constrained = omega (arith, ints) }

pub returns-clause-late : goal.returns-clause-late
returns-clause-late c = λ range. let no = range.constrained in omega (arith, ints, no)

pub returns-clause-no_cost : goal.returns-clause-no_cost
returns-clause-no_cost c = λ range. let no = range.cost.low in omega (arith, ints, no)

pub returns-clause-taken : goal.returns-clause-taken
returns-clause-taken c = λ range. range.free 0 (record { name = []; cost = 1; period = 1; deadline = 1; priority = 0 }) (omega arith) refl
