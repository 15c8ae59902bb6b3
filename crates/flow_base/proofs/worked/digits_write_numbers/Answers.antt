-- What is left to show of `digits_write_numbers`.
use Rattle.std.proofs.Common.{refl}
use Rattle.flow_base.proofs.worked.digits_write_numbers.Goals as goal

pub returns-clause-number : goal.returns-clause-number
returns-clause-number c = refl

pub returns-clause-zeros : goal.returns-clause-zeros
returns-clause-zeros c = refl

pub returns-clause-first : goal.returns-clause-first
returns-clause-first c = refl

pub returns-clause-none : goal.returns-clause-none
returns-clause-none c = refl
