-- What is left to show of `sizes_are_those_of_the_rules`.
use Rattle.std.proofs.Common.{refl}
use Rattle.alf_faults.proofs.worked.sizes_are_those_of_the_rules.Goals as goal

pub returns-clause-bytes : goal.returns-clause-bytes
returns-clause-bytes c = refl

pub returns-clause-three_bytes : goal.returns-clause-three_bytes
returns-clause-three_bytes c = refl

pub returns-clause-held : goal.returns-clause-held
returns-clause-held c = refl

pub returns-clause-bits : goal.returns-clause-bits
returns-clause-bits c = refl

pub returns-clause-past : goal.returns-clause-past
returns-clause-past c = refl

pub returns-clause-address : goal.returns-clause-address
returns-clause-address c = refl

pub returns-clause-stored : goal.returns-clause-stored
returns-clause-stored c = refl

pub returns-clause-right : goal.returns-clause-right
returns-clause-right c = refl

pub returns-clause-returns : goal.returns-clause-returns
returns-clause-returns c = refl
