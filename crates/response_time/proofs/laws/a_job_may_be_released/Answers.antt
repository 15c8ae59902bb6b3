use Rattle.response_time.proofs.Allowed.{may_be_released, is_released}
use Rattle.response_time.proofs.laws.a_job_may_be_released.Goals as goal

pub returns-clause-may : goal.returns-clause-may
returns-clause-may c = may_be_released

pub returns-clause-only : goal.returns-clause-only
returns-clause-only c = is_released
