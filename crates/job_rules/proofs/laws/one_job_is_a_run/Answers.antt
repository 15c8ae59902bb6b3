use Rattle.job_rules.proofs.Sequences.{one_job}
use Rattle.job_rules.proofs.laws.one_job_is_a_run.Goals as goal

pub returns : goal.returns
returns c = one_job
