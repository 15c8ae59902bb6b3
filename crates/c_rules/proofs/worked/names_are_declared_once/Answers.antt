-- What is left to show of `names_are_declared_once`.
use Rattle.std.proofs.Common.{refl}
use Rattle.c_rules.proofs.worked.names_are_declared_once.Goals as goal

pub returns-clause-unknown : goal.returns-clause-unknown
returns-clause-unknown c = refl

pub returns-clause-twice : goal.returns-clause-twice
returns-clause-twice c = refl
