use Rattle.std.proofs.Common.{refl}
use Rattle.alf_ops.proofs.Operators.{chooses, rounds_down}
use Rattle.alf_ops.proofs.laws.words_are_chosen_and_shifted.Goals as goal

pub returns-clause-chosen : goal.returns-clause-chosen
returns-clause-chosen c = chooses

pub returns-clause-down : goal.returns-clause-down
returns-clause-down c = rounds_down

pub returns-clause-bits : goal.returns-clause-bits
returns-clause-bits c = record { both = refl; either = refl; just_one = refl }
