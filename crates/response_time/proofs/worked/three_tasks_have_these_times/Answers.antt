use Rattle.std.proofs.Common.{arith}
use Rattle.response_time.proofs.Examples.{times, late}
use Rattle.response_time.proofs.worked.three_tasks_have_these_times.Goals as goal

pub returns-clause-times : goal.returns-clause-times
returns-clause-times c = times 3000 (omega arith)

pub returns-clause-in_time : goal.returns-clause-in_time
returns-clause-in_time c = times 1370 (omega arith)

pub returns-clause-late : goal.returns-clause-late
returns-clause-late c = late
