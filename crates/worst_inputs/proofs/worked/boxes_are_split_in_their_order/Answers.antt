-- Split by split.
use Rattle.worst_inputs.proofs.WorkedSearches.{after_1, after_2, after_3}
use Rattle.worst_inputs.proofs.worked.boxes_are_split_in_their_order.Goals as goal

pub returns-clause-first : goal.returns-clause-first
returns-clause-first c = after_1

pub returns-clause-second : goal.returns-clause-second
returns-clause-second c = after_2

pub returns-clause-third : goal.returns-clause-third
returns-clause-third c = after_3
