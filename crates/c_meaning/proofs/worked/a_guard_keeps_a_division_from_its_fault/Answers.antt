-- What is left to show of `a_guard_keeps_a_division_from_its_fault`.
use Rattle.std.proofs.Common.{refl}
use Rattle.c_meaning.proofs.worked.a_guard_keeps_a_division_from_its_fault.Goals as goal

pub returns-clause-zero : goal.returns-clause-zero
returns-clause-zero c = refl

pub returns-clause-two : goal.returns-clause-two
returns-clause-two c = refl

pub returns-clause-five : goal.returns-clause-five
returns-clause-five c = refl
