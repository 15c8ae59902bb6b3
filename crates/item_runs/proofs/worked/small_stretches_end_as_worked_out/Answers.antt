-- What is left to show of `small_stretches_end_as_worked_out`.
use Rattle.std.proofs.Common.{refl}
use Rattle.item_runs.proofs.worked.small_stretches_end_as_worked_out.Goals as goal

pub returns-clause-jumps : goal.returns-clause-jumps
returns-clause-jumps c = refl

pub returns-clause-calls : goal.returns-clause-calls
returns-clause-calls c = refl

pub returns-clause-nothing : goal.returns-clause-nothing
returns-clause-nothing c = refl

pub returns-clause-pointer : goal.returns-clause-pointer
returns-clause-pointer c = refl

pub returns-clause-first : goal.returns-clause-first
returns-clause-first c = refl
