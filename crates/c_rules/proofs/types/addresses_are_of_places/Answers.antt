-- What is left to show of `addresses_are_of_places`.
use Rattle.std.proofs.Common.{refl}
use Rattle.c_rules.proofs.types.addresses_are_of_places.Goals as goal

pub returns-clause-address : goal.returns-clause-address
returns-clause-address c = refl

pub returns-clause-no_place : goal.returns-clause-no_place
returns-clause-no_place c = refl

pub returns-clause-of_pointer : goal.returns-clause-of_pointer
returns-clause-of_pointer c = refl

pub returns-clause-load : goal.returns-clause-load
returns-clause-load c = refl

pub returns-clause-no_load : goal.returns-clause-no_load
returns-clause-no_load c = refl

pub returns-clause-minus : goal.returns-clause-minus
returns-clause-minus c = refl

pub returns-clause-not : goal.returns-clause-not
returns-clause-not c = refl

pub returns-clause-no_not : goal.returns-clause-no_not
returns-clause-no_not c = refl
