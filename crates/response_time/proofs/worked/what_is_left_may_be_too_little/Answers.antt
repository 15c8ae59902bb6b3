use Rattle.response_time.proofs.Examples.{crowded, crowded_is_late}
use Rattle.response_time.proofs.worked.what_is_left_may_be_too_little.Goals as goal

pub returns-clause-crowded : goal.returns-clause-crowded
returns-clause-crowded c = crowded

pub returns-clause-late : goal.returns-clause-late
returns-clause-late c = crowded_is_late
