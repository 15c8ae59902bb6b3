use Rattle.strided_rules.proofs.WorkedRows.{sum, remainder, lesser_of, below, below_unsigned, left_out, not_there}
use Rattle.strided_rules.proofs.worked.rules_come_out.Goals as goal

pub returns-clause-sum : goal.returns-clause-sum
returns-clause-sum c = sum

pub returns-clause-remainder : goal.returns-clause-remainder
returns-clause-remainder c = remainder

pub returns-clause-lesser : goal.returns-clause-lesser
returns-clause-lesser c = lesser_of

pub returns-clause-below : goal.returns-clause-below
returns-clause-below c = below

pub returns-clause-below_unsigned : goal.returns-clause-below_unsigned
returns-clause-below_unsigned c = below_unsigned

pub returns-clause-left_out : goal.returns-clause-left_out
returns-clause-left_out c = left_out

pub returns-clause-not_there : goal.returns-clause-not_there
returns-clause-not_there c = not_there
