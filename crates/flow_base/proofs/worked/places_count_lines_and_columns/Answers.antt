-- What is left to show of `places_count_lines_and_columns`.
use Rattle.std.proofs.Common.{refl}
use Rattle.flow_base.proofs.worked.places_count_lines_and_columns.Goals as goal

pub returns-clause-start : goal.returns-clause-start
returns-clause-start c = refl

pub returns-clause-within : goal.returns-clause-within
returns-clause-within c = refl

pub returns-clause-feed : goal.returns-clause-feed
returns-clause-feed c = refl

pub returns-clause-next : goal.returns-clause-next
returns-clause-next c = refl

pub returns-clause-end : goal.returns-clause-end
returns-clause-end c = refl
