use Rattle.response_time.proofs.Examples.{higher, lower_not, idle_not, none_runs, earlier, later}
use Rattle.response_time.proofs.worked.the_higher_and_the_earlier_run_first.Goals as goal

pub returns-clause-higher : goal.returns-clause-higher
returns-clause-higher c = higher

pub returns-clause-lower : goal.returns-clause-lower
returns-clause-lower c = lower_not

pub returns-clause-idle : goal.returns-clause-idle
returns-clause-idle c = idle_not

pub returns-clause-none : goal.returns-clause-none
returns-clause-none c = none_runs

pub returns-clause-earlier : goal.returns-clause-earlier
returns-clause-earlier c = earlier

pub returns-clause-later : goal.returns-clause-later
returns-clause-later c = later
