-- Split by split.
use Rattle.worst_inputs.proofs.WorkedSearches.{without_point, with_point, half_left}
use Rattle.worst_inputs.proofs.worked.searches_end_where_a_point_is_worst.Goals as goal

pub returns-clause-all_made : goal.returns-clause-all_made
returns-clause-all_made c = without_point

pub returns-clause-point : goal.returns-clause-point
returns-clause-point c = with_point

pub returns-clause-left : goal.returns-clause-left
returns-clause-left c = half_left
