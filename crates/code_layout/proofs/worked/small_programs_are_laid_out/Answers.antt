-- What is left to show of `small_programs_are_laid_out`.
use Rattle.std.proofs.Common.{refl}
use Rattle.code_layout.proofs.worked.small_programs_are_laid_out.Goals as goal

pub returns-clause-fall : goal.returns-clause-fall
returns-clause-fall c = refl

pub returns-clause-jump : goal.returns-clause-jump
returns-clause-jump c = refl

pub returns-clause-switch : goal.returns-clause-switch
returns-clause-switch c = refl

pub returns-clause-call : goal.returns-clause-call
returns-clause-call c = refl

pub returns-clause-returning : goal.returns-clause-returning
returns-clause-returning c = refl

pub returns-clause-statements : goal.returns-clause-statements
returns-clause-statements c = refl

pub returns-clause-entry : goal.returns-clause-entry
returns-clause-entry c = refl

pub returns-clause-root : goal.returns-clause-root
returns-clause-root c = refl

pub returns-clause-called : goal.returns-clause-called
returns-clause-called c = refl
