-- What is left to show of `small_items_run_as_worked_out`.
use Rattle.std.proofs.Common.{refl}
use Rattle.item_runs.proofs.worked.small_items_run_as_worked_out.Goals as goal

pub returns-clause-calls : goal.returns-clause-calls
returns-clause-calls c = refl

pub returns-clause-jumps : goal.returns-clause-jumps
returns-clause-jumps c = refl
