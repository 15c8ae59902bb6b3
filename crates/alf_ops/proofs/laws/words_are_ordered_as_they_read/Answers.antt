use Rattle.alf_ops.proofs.Operators.{orders, tells_equal, keeps_reading}
use Rattle.alf_ops.proofs.laws.words_are_ordered_as_they_read.Goals as goal

pub returns-clause-order : goal.returns-clause-order
returns-clause-order c = orders

pub returns-clause-equal : goal.returns-clause-equal
returns-clause-equal c = tells_equal

pub returns-clause-extended : goal.returns-clause-extended
returns-clause-extended c = keeps_reading
