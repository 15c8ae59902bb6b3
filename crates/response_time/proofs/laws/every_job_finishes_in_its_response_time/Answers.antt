use Rattle.response_time.proofs.Busy.{finish_in_time, finish_within}
use Rattle.response_time.proofs.Allowed.{work_is_done}
use Rattle.response_time.proofs.laws.every_job_finishes_in_its_response_time.Goals as goal

pub returns-clause-one : goal.returns-clause-one
returns-clause-one c = finish_in_time

pub returns-clause-all : goal.returns-clause-all
returns-clause-all c = finish_within

pub returns-clause-work : goal.returns-clause-work
returns-clause-work c = work_is_done
