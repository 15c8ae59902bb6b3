-- What is left to show of `shifts_move_bits`.
use Rattle.std.proofs.Common.{refl}
use Rattle.c_meaning.proofs.operators.shifts_move_bits.Goals as goal

pub returns-clause-doubled : goal.returns-clause-doubled
returns-clause-doubled c = refl

pub returns-clause-cut : goal.returns-clause-cut
returns-clause-cut c = refl

pub returns-clause-halved : goal.returns-clause-halved
returns-clause-halved c = refl

pub returns-clause-rounded : goal.returns-clause-rounded
returns-clause-rounded c = refl

pub returns-clause-without_sign : goal.returns-clause-without_sign
returns-clause-without_sign c = refl
