use Rattle.response_time.proofs.Reaching.{times_are_reached, no_smaller, late_tasks_miss}
use Rattle.response_time.proofs.laws.response_times_are_reached.Goals as goal

pub returns-clause-reached : goal.returns-clause-reached
returns-clause-reached c = times_are_reached

pub returns-clause-least : goal.returns-clause-least
returns-clause-least c = no_smaller

pub returns-clause-late : goal.returns-clause-late
returns-clause-late c = late_tasks_miss
