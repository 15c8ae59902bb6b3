use Rattle.response_time.proofs.Examples.{nine_units, ten_units}
use Rattle.response_time.proofs.worked.a_job_is_pending_until_its_work_is_done.Goals as goal

pub returns-clause-nine : goal.returns-clause-nine
returns-clause-nine c = nine_units

pub returns-clause-ten : goal.returns-clause-ten
returns-clause-ten c = ten_units
