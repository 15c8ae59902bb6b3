use Rattle.job_rules.specs.LeaveLaws.{each_leaves, leaves_and_ends}
use Rattle.job_rules.proofs.laws.runs_that_end_leave_memories.Goals as goal

pub returns : goal.returns
returns c = record { leave = each_leaves; end = leaves_and_ends }
