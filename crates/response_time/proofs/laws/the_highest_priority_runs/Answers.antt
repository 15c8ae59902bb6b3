use Rattle.response_time.proofs.Allowed.{may_run, is_run}
use Rattle.response_time.proofs.laws.the_highest_priority_runs.Goals as goal

pub returns-clause-may : goal.returns-clause-may
returns-clause-may c = may_run

pub returns-clause-only : goal.returns-clause-only
returns-clause-only c = is_run
