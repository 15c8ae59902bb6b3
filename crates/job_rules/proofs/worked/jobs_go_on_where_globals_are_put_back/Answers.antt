use Rattle.job_rules.proofs.WorkedJobs.{three_jobs, no_second_job}
use Rattle.job_rules.proofs.worked.jobs_go_on_where_globals_are_put_back.Goals as goal

pub returns : goal.returns
returns c = record { three = three_jobs; none = no_second_job }
