-- What is left to show of `a_circle_is_told_by_its_names`.
use Rattle.std.proofs.Common.{refl}
use Rattle.c_rules.proofs.worked.a_circle_is_told_by_its_names.Goals as goal

pub returns-clause-text : goal.returns-clause-text
returns-clause-text c = refl

pub returns-clause-calls : goal.returns-clause-calls
returns-clause-calls c = refl

pub returns-clause-names : goal.returns-clause-names
returns-clause-names c = refl
