-- What is left to show of `labels_and_conditions_are_converted`.
use Rattle.std.proofs.Common.{refl}
use Rattle.c_rules.proofs.worked.labels_and_conditions_are_converted.Goals as goal

pub returns-clause-label : goal.returns-clause-label
returns-clause-label c = refl

pub returns-clause-part : goal.returns-clause-part
returns-clause-part c = refl
