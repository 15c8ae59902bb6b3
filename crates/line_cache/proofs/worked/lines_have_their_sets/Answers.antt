-- What is left to show of `lines_have_their_sets`.
use Rattle.std.proofs.Common.{refl}
use Rattle.line_cache.proofs.worked.lines_have_their_sets.Goals as goal

pub returns-clause-all : goal.returns-clause-all
returns-clause-all c = λ sets line. refl

pub returns-clause-third : goal.returns-clause-third
returns-clause-third c = refl

pub returns-clause-last : goal.returns-clause-last
returns-clause-last c = refl

pub returns-clause-around : goal.returns-clause-around
returns-clause-around c = refl

pub returns-clause-only : goal.returns-clause-only
returns-clause-only c = refl
