-- What is left to show of `pointers_have_the_size_of_an_address`.
use Rattle.std.proofs.Common.{refl}
use Rattle.alf_ops.proofs.laws.pointers_have_the_size_of_an_address.Goals as goal

pub returns-clause-size : goal.returns-clause-size
returns-clause-size c = λ a b. refl

pub returns-clause-offset : goal.returns-clause-offset
returns-clause-offset c = λ a b. refl

pub returns-clause-word : goal.returns-clause-word
returns-clause-word c = λ a b. refl

pub returns-clause-pointer : goal.returns-clause-pointer
returns-clause-pointer c = λ a b. refl

pub returns-clause-no_pointer : goal.returns-clause-no_pointer
returns-clause-no_pointer c = λ a b. refl
