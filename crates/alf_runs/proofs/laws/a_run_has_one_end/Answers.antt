use Rattle.alf_runs.proofs.RunLengths.{one_end, ends_at_length, ends_or_goes_on}
use Rattle.alf_runs.proofs.laws.a_run_has_one_end.Goals as goal

pub returns-clause-one : goal.returns-clause-one
returns-clause-one c = one_end

pub returns-clause-length : goal.returns-clause-length
returns-clause-length c = ends_at_length

pub returns-clause-within : goal.returns-clause-within
returns-clause-within c = λ program start n. ends_or_goes_on program n start
