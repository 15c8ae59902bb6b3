use Rattle.alf_runs.proofs.RunLengths.{goes_on_from, stays_over}
use Rattle.alf_runs.proofs.laws.a_run_has_one_continuation.Goals as goal

pub returns-clause-more : goal.returns-clause-more
returns-clause-more c = goes_on_from

pub returns-clause-over : goal.returns-clause-over
returns-clause-over c = stays_over
