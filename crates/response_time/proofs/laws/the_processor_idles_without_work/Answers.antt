use Rattle.response_time.proofs.Allowed.{may_idle, is_idle}
use Rattle.response_time.proofs.laws.the_processor_idles_without_work.Goals as goal

pub returns-clause-may : goal.returns-clause-may
returns-clause-may c = may_idle

pub returns-clause-only : goal.returns-clause-only
returns-clause-only c = is_idle
